-- `manager::lay_slots` meets its contract: invariant: the first i slots, and blanks behind them. Assumes nothing.
use mathlib.Core.List.{map}
use lib.ListN.{take}
use Rattle.state_room.specs.Padded.{padded}
use Rattle.state_events.specs.Slots as slot
use Rattle.state_events.specs.Slots.{event_of, room_for_events}
use Rattle.manager.proofs.lay_slots.Given as goal

abbrev pub invariant-loop-i : goal.invariant-loop-i
invariant-loop-i l = slot.Held l.rows (padded slot.blank room_for_events (take l.i (map event_of l.slots)))
