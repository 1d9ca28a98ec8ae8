-- `call_transition_events::hold` meets its contract. Assumes nothing.
use Rattle.call_transition_events.proofs.StartLaws.{hold_steps}
use Rattle.call_transition_events.proofs.hold.Goals as goal

pub returns-clause-steps : goal.returns-clause-steps
returns-clause-steps c = hold_steps _ _ c.requires _ _ _ _ _ (rw c.most_held-limit.ensures at c.push-pushed.ensures)
