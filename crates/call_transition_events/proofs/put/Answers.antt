-- `call_transition_events::put` meets its contract. Assumes nothing.
use Rattle.std.proofs.Common.{refl}
use Rattle.std.proofs.lemmas.Result.{err_from_is_err_and}
use Rattle.state_room.specs.Holds.{steps_then, steps_end}
use Rattle.tags.specs.Views.{of_global}
use Rattle.state_events.specs.Slots.{event_of}
use Rattle.machine.specs.State.{accepted}
use Rattle.machine.specs.Transition.{held}
use Rattle.call_transition_events.specs.Starting.{put_step}
use Rattle.call_transition_events.proofs.put.Goals as goal

pub returns-in_err-hold-clause-steps : goal.returns-in_err-hold-clause-steps
unfolding put_step
returns-in_err-hold-clause-steps c =
    let s = c.args.s in
    let img = c.args.image.now in
    let p = err_from_is_err_and c.from_residual.result c.from_residual.ensures.1 in
    rw (p.1, p.2) (steps_end img (held img s.action (of_global s.stored)) (λ t. accepted img t (event_of s)) _ _ _ _ _ c.in_err-hold.ensures.steps refl refl)

pub returns-clause-steps : goal.returns-clause-steps
unfolding put_step
returns-clause-steps c =
    let s = c.args.s in
    let img = c.args.image.now in
    steps_then img (held img s.action (of_global s.stored)) (λ t. accepted img t (event_of s)) _ _ _ _ _ c.in_ok-hold.ensures.steps refl c.accept.ensures.steps
