-- `call_transition_events::hold_startup` meets its contract. Assumes nothing.
use Rattle.call_transition_plan.proofs.PlanLaws.{row_has}
use Rattle.call_transition_events.proofs.StartLaws.{value_held, value_none}
use Rattle.call_transition_events.proofs.hold_startup.Goals as goal

pub returns-then-not-contains-clause-steps : goal.returns-then-not-contains-clause-steps
returns-then-not-contains-clause-steps c = value_none _ _ _ _ (row_has _ c.startup_scope.ensures c.contains.ensures c.if-not-contains.true)

pub returns-clause-steps : goal.returns-clause-steps
returns-clause-steps c =
    let e = row_has _ c.startup_scope.ensures c.contains.ensures c.if-not-contains.false in
    value_held _ _ _ _ _ _ e c.startup_action-action.ensures c.hold.ensures.steps
