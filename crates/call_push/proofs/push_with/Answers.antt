-- `call_push::push_with` meets its contract: the event comes last or is refused, and the least tags grow with it. Assumes nothing.
use Rattle.std.proofs.lemmas.Result.{err_from_is_err_and}
use Rattle.lists.specs.Walk.{done}
use Rattle.state_events.specs.Slots.{event_of}
use Rattle.std.specs.Prelude.{refl}
use Rattle.call_push.proofs.PushLaws.{performs_made}
use Rattle.call_push.proofs.HeadLaws.{push_more, heads_still}
use Rattle.call_push.proofs.push_with.Goals as goal

pub returns-in_err-slot-clause-pushes : goal.returns-in_err-slot-clause-pushes
returns-in_err-slot-clause-pushes c = λ s q h.
    let p = err_from_is_err_and c.from_residual.result c.from_residual.ensures.1 in
    rw (performs_made c.args.image.now s c.args.scopes.now h c.args.push c.args.keys.now, ← c.in_err-slot.ensures, p.1, p.2)
    (record { reply = refl; queued = q; waits = c.requires.waits })

pub returns-in_err-after-clause-pushes : goal.returns-in_err-after-clause-pushes
returns-in_err-after-clause-pushes c = λ s q h.
    let p = err_from_is_err_and c.from_residual-in_err-after.result c.from_residual-in_err-after.ensures.1 in
    rw (performs_made c.args.image.now s c.args.scopes.now h c.args.push c.args.keys.now, ← c.in_ok-slot.ensures, p.1, p.2) (c.in_err-after.ensures s q)

pub returns-in_err-after-clause-headed_2 : goal.returns-in_err-after-clause-headed_2
returns-in_err-after-clause-headed_2 c =
    let p = err_from_is_err_and c.from_residual-in_err-after.result c.from_residual-in_err-after.ensures.1 in
    rw p.1 (heads_still c.args.image.now _ _ (done (event_of c.in_ok-slot.slot)) _ _ c.requires.waits c.in_err-after.ensures c.requires.headed)

pub grow-requires : goal.grow-requires
grow-requires c =
    let m = done (event_of c.in_ok-slot.slot) in
    record {
      held = heads_still c.args.image.now _ _ m _ _ c.requires.waits c.in_ok-after.ensures c.requires.headed;
      before_le_after = push_more c.args.image.now _ _ m _ _ c.requires.waits c.in_ok-after.ensures;
    }

pub returns-clause-pushes : goal.returns-clause-pushes
returns-clause-pushes c = λ s q h. rw (performs_made c.args.image.now s c.args.scopes.now h c.args.push c.args.keys.now, ← c.in_ok-slot.ensures) (c.in_ok-after.ensures s q)
