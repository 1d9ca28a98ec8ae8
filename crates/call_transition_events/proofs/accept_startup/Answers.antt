-- `call_transition_events::accept_startup` meets its contract. Assumes nothing.
use Rattle.std.proofs.Common.{refl}
use Rattle.call_transition_plan.proofs.PlanLaws.{row_has}
use Rattle.call_transition_events.proofs.StartLaws.{event_made, event_none}
use Rattle.call_transition_events.proofs.accept_startup.Goals as goal

pub returns-then-not-contains-clause-steps : goal.returns-then-not-contains-clause-steps
returns-then-not-contains-clause-steps c = event_none _ _ _ _ (row_has _ refl c.contains.ensures c.if-not-contains.true)

pub returns-clause-steps : goal.returns-clause-steps
returns-clause-steps c =
    let e = row_has _ refl c.contains.ensures c.if-not-contains.false in
    event_made _ _ _ _ _ _ e c.startups.ensures c.plain-s.ensures c.accept.ensures.steps
