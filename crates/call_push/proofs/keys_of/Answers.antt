-- `call_push::keys_of` meets its contract. Assumes nothing.
use Rattle.std.specs.Prelude.{◌≡◌, length, refl}
use Rattle.std.proofs.Common.{◌∙◌, ap, arith}
use Rattle.key_set.specs.Sets.{insert_key}
use Rattle.machine.specs.Machine.{keys_ok}
use Rattle.call_push.proofs.PushLaws.{keying_start, keying_next, keying_stop, keying_known, keying_set}
use Rattle.call_push.proofs.keys_of.Goals as goal

pub loop-k-init : goal.loop-k-init
loop-k-init c = keying_start _ _ _ c.empty-set.ensures

pub returns-then-n-k : goal.returns-then-n-k
unfolding keys_ok
returns-then-n-k c = (rw (← c.count-n.ensures) (keying_stop _ _ c.loop-k.k-index _ c.loop-k.invariant c.loop-k-test.true c.if-n-k.true), refl)

pub loop-k-preserved : goal.loop-k-preserved
loop-k-preserved c =
    keying_next _ _ c.loop-k.k-index _ c.loop-k.invariant c.loop-k-test.true _ c.if-n-k.false (c.insert-set.ensures ∙ ap (insert_key c.loop-k.set.words) c.from.ensures)

pub returns : goal.returns
unfolding keys_ok
returns c =
    let e : c.loop-k.k-index ≡ length c.args.keys.now = omega (arith, c.loop-k.invariant.near) in
    let w = rw e at c.loop-k.invariant in
    (rw (← c.count-n.ensures) (keying_known _ _ _ w), keying_set _ _ _ w)
