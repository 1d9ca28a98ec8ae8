-- `call_pop::take_scopes` meets its contract: what is left to take makes the whole, one turn less each time. Assumes nothing.
use Rattle.std.specs.Prelude.{take, ◌+◌, ◌-◌, ◌≡◌}
use Rattle.std.proofs.Common.{arith}
use Rattle.lists.specs.Tests.{flag}
use Rattle.tags.specs.Views.{of_global}
use Rattle.state_events.specs.Slots.{events_of}
use Rattle.state_scopes.specs.Scopes.{scopes_of}
use Rattle.state_heads.specs.Found.{head_of}
use Rattle.call_pop.proofs.PopLaws.{scope_head_lem, going_start, going_next, going_stop, going_end}
use Rattle.call_pop.proofs.take_scopes.Goals as goal

pub loop-i-init : goal.loop-i-init
loop-i-init c =
    let n = c.args.turn.turns in
    let e : n - 0 ≡ n = omega arith in (
      rw e
          (going_start c.args.image.now (scopes_of c.args.scopes.now) (of_global c.args.turn.tag) c.args.turn.turns c.args.events.now c.args.keys.now
          c.args.given (head_of c.args.turn.local) c.requires.waits c.requires.keys_len.1 c.requires.local_value),
      c.requires.headed,
    )

pub loop-i-preserved : goal.loop-i-preserved
loop-i-preserved c =
    let n = c.args.turn.turns in
    let e : n - (c.loop-i._i + 1) ≡ n - c.loop-i._i - 1 = omega arith in
    let d = scope_head_lem c.args.image.now c.args.scopes.now (take c.take_head-out.result.counts.waiting (events_of c.take_head-out.new.events)) c.count-n.ensures c.take_head-out.ensures.headed_2 c.scope_head-local.ensures in
    (rw e (going_next c.loop-i.invariant.0 (omega (arith, c.loop-i-test.true)) (flag c.is_at.ensures c.if-not-is_at.false) c.take_head-out.ensures.takes d), c.take_head-out.ensures.headed_2)

pub returns-then-not-is_at-clause-takes : goal.returns-then-not-is_at-clause-takes
returns-then-not-is_at-clause-takes c = going_stop c.loop-i.invariant.0 (flag c.is_at.ensures c.if-not-is_at.true)

pub returns-clause-takes : goal.returns-clause-takes
returns-clause-takes c = going_end c.loop-i.invariant.0 (omega arith)
