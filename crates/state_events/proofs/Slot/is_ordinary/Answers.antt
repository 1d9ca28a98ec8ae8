-- `state_events::Slot::is_ordinary` meets its contract. Assumes nothing.
use Rattle.machine.specs.State.{ordinary}
use Rattle.state_events.proofs.Slot.is_ordinary.Goals as goal

pub returns-then-not-self : goal.returns-then-not-self
unfolding ordinary
returns-then-not-self c = simp c.if-not-self.true

pub returns-else-not-self : goal.returns-else-not-self
unfolding ordinary
returns-else-not-self c = simp c.if-not-self.false
