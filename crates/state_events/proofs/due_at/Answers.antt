-- `state_events::due_at` meets its contract. Assumes nothing.
use mathlib.Core.Path.{refl}
use Rattle.state_events.proofs.SlotLaws.{due_there}
use borrow.Author.Rules.{rules}
use Rattle.state_events.proofs.due_at.Goals as goal

pub returns : goal.returns
returns c = due_there _ _ (search rules) refl refl refl
