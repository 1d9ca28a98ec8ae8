-- `call_transition_events::start_all` meets its contract: all values, then all events. Assumes nothing.
use Rattle.std.proofs.Common.{refl, arith, ◌∙◌}
use Rattle.std.proofs.lemmas.Result.{err_from_is_err_and}
use Rattle.state_room.specs.Holds.{steps_then, steps_end}
use Rattle.state_room.specs.Walks.{walked_next, walked_refused, walked_end}
use Rattle.call_transition_events.specs.Starting.{all_values, all_events}
use Rattle.call_transition_events.proofs.start_all.Goals as goal

pub loop-j-preserved : goal.loop-j-preserved
loop-j-preserved c =
    (walked_next c.loop-j.invariant.0 (omega (arith, c.count-j-end.ensures)) _ _ c.in_ok-hold_startup.ensures.steps refl, c.in_ok-hold_startup.ensures.scopes ∙ c.loop-j.invariant.1)

pub returns-in_err-hold_startup-clause-steps : goal.returns-in_err-hold_startup-clause-steps
returns-in_err-hold_startup-clause-steps c =
    let p = err_from_is_err_and c.from_residual.result c.from_residual.ensures.1 in
    rw (p.1, p.2)
    (steps_end _ (all_values _ c.args.f) (all_events _ c.args.f) _ _ _ _ _
    (walked_refused c.loop-j.invariant.0 (omega (arith, c.count-j-end.ensures)) _ _ c.in_err-hold_startup.ensures.steps refl refl) refl refl)

pub loop-i-preserved : goal.loop-i-preserved
loop-i-preserved c =
    (walked_next c.loop-i.invariant.0 (omega (arith, c.count-i-end.ensures)) _ _ c.in_ok-accept_startup.ensures.steps refl, c.in_ok-accept_startup.ensures.scopes ∙ c.loop-i.invariant.1)

pub returns-in_err-accept_startup-clause-steps : goal.returns-in_err-accept_startup-clause-steps
returns-in_err-accept_startup-clause-steps c =
    let p = err_from_is_err_and c.from_residual-in_err-accept_startup.result c.from_residual-in_err-accept_startup.ensures.1 in
    rw (p.1, p.2)
    (steps_then _ (all_values _ c.args.f) (all_events _ c.args.f) _ _ _ _ _ (walked_end c.loop-j.invariant.0 (omega (arith, c.count-j-end.ensures)) refl) refl
    (walked_refused c.loop-i.invariant.0 (omega (arith, c.count-i-end.ensures)) _ _ c.in_err-accept_startup.ensures.steps refl refl))

pub returns-clause-steps : goal.returns-clause-steps
returns-clause-steps c =
    steps_then _ (all_values _ c.args.f) (all_events _ c.args.f) _ _ _ _ _ (walked_end c.loop-j.invariant.0 (omega (arith, c.count-j-end.ensures)) refl) refl
    (walked_end c.loop-i.invariant.0 (omega (arith, c.count-i-end.ensures)) refl)
