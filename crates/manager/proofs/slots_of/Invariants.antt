-- `manager::slots_of` meets its contract: invariant: the first i slots are those of the rows. Assumes nothing.
use mathlib.Core.Path.{◌≡◌}
use Prim.Native.Nat.{◌≤◌}
use mathlib.Core.List.{map}
use lib.ListN.{take, length}
use Rattle.state_events.specs.Slots.{room_for_events}
use Rattle.state_events.specs.Slots.{event_of, events_of}
use Rattle.manager.proofs.slots_of.Given as goal

abbrev pub invariant-loop-i : goal.invariant-loop-i
invariant-loop-i l = (l.i ≤ room_for_events) × (length l.slot-items ≡ room_for_events) × (take l.i (map event_of l.slot-items) ≡ take l.i (events_of l.rows))
