-- `call_transition_events::start_timer` meets its contract: a tag before its value, a value before its event. Assumes nothing.
use Rattle.std.proofs.Common.{refl, sym, ◌∙◌}
use Rattle.std.proofs.lemmas.Result.{err_from_is_err_and}
use Rattle.call_transition_plan.proofs.PlanLaws.{row_has}
use Rattle.call_transition_events.proofs.StartLaws.{timer_none, timer_put, timer_refused}
use Rattle.call_transition_events.proofs.start_timer.Goals as goal

pub returns-then-not-contains-clause-steps : goal.returns-then-not-contains-clause-steps
returns-then-not-contains-clause-steps c = timer_none _ _ _ _ (row_has _ c.timer_scope.ensures refl (sym c.contains.ensures ∙ c.if-not-contains.true))

pub returns-in_err-at-clause-steps : goal.returns-in_err-at-clause-steps
returns-in_err-at-clause-steps c =
    let e = row_has _ c.timer_scope.ensures refl (sym c.contains.ensures ∙ c.if-not-contains.false) in
    let p = err_from_is_err_and c.from_residual.result c.from_residual.ensures.1 in
    rw (p.1, p.2) (timer_refused _ _ _ _ e _ c.in_err-at.ensures)

pub returns-clause-steps : goal.returns-clause-steps
returns-clause-steps c =
    let e = row_has _ c.timer_scope.ensures refl (sym c.contains.ensures ∙ c.if-not-contains.false) in
    timer_put _ _ _ _ e _ _ c.in_ok-at.ensures c.timer_slot-s.ensures c.put.ensures.steps
