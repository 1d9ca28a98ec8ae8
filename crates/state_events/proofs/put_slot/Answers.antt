-- `state_events::put_slot` meets its contract: past the last row it changes nothing. Assumes nothing.
use Rattle.state_events.proofs.SlotLaws.{put_past, put_there}
use borrow.Author.Rules.{rules}
use Rattle.state_events.proofs.put_slot.Goals as goal

pub returns-then-k-ge-ROOM_FOR_EVENTS : goal.returns-then-k-ge-ROOM_FOR_EVENTS
returns-then-k-ge-ROOM_FOR_EVENTS c = put_past _ _ _ c.requires c.if-k-ge-ROOM_FOR_EVENTS.true

pub returns : goal.returns
returns c = put_there _ _ _ c.requires (search rules) c.words_of.ensures c.put_row.ensures
