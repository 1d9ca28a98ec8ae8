-- `call_transition_events::restart_all` meets its contract: the timers, then the reset reactions. Assumes nothing.
use Rattle.std.proofs.Common.{refl, arith, ◌∙◌}
use Rattle.std.proofs.lemmas.Result.{err_from_is_err_and}
use Rattle.state_room.specs.Holds.{steps_then, steps_end}
use Rattle.state_room.specs.Walks.{walked_next, walked_refused, walked_end}
use Rattle.machine.specs.Transition.{step5}
use Rattle.call_transition_events.specs.Starting.{timers_on, resets_on}
use Rattle.call_transition_events.proofs.StartLaws.{timers_are}
use Rattle.call_transition_events.proofs.restart_all.Goals as goal

pub loop-j-preserved : goal.loop-j-preserved
loop-j-preserved c =
    (walked_next c.loop-j.invariant.0 (omega (arith, c.count-j-end.ensures)) _ _ c.in_ok-start_timer.ensures.steps refl, c.in_ok-start_timer.ensures.scopes ∙ c.loop-j.invariant.1)

pub returns-in_err-start_timer-clause-steps : goal.returns-in_err-start_timer-clause-steps
unfolding step5
returns-in_err-start_timer-clause-steps c =
    let p = err_from_is_err_and c.from_residual.result c.from_residual.ensures.1 in
    rw (p.1, p.2)
    (steps_end _ (timers_on _ c.args.plan) (resets_on _ c.args.plan) _ _ _ _ _
    (timers_are _ c.args.plan _ _ _ (walked_refused c.loop-j.invariant.0 (omega (arith, c.count-j-end.ensures)) _ _ c.in_err-start_timer.ensures.steps refl refl)) refl refl)

pub returns-clause-steps : goal.returns-clause-steps
unfolding step5
returns-clause-steps c =
    steps_then _ (timers_on _ c.args.plan) (resets_on _ c.args.plan) _ _ _ _ _
    (timers_are _ c.args.plan _ _ _ (walked_end c.loop-j.invariant.0 (omega (arith, c.count-j-end.ensures)) refl)) refl c.reset_reactions.ensures.steps
