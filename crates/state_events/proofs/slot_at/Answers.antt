-- `state_events::slot_at` meets its contract: the words that it reads are those of the row, and past the last row stands a blank. Assumes nothing.
use Rattle.state_events.proofs.SlotLaws.{read_past, read_there}
use borrow.Author.Rules.{rules}
use Rattle.state_events.proofs.slot_at.Goals as goal

pub returns-then-k-ge-ROOM_FOR_EVENTS : goal.returns-then-k-ge-ROOM_FOR_EVENTS
returns-then-k-ge-ROOM_FOR_EVENTS c = search read_past

pub returns : goal.returns
returns c = read_there _ _ (search rules) c.slot_of.ensures c.row_at.ensures
