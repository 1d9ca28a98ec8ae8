-- `state_events::copy_slot` meets its contract: a row is the words of its slot. Assumes nothing.
use Rattle.state_events.proofs.SlotLaws.{copied}
use Rattle.state_events.proofs.copy_slot.Goals as goal

pub returns : goal.returns
returns c = let r = c.requires in copied _ _ _ r.whole r.from_lt_room_for_events.0 r.from_lt_room_for_events.1 c.row_at.ensures c.put_row.ensures
