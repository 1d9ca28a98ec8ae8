-- `day_run::run_records` meets its contract: the lines so far are written, and the arrays hold the state after the records so far. Assumes nothing.
use Prim.Native.Nat.{◌-◌}
use mathlib.Core.Bool.{false}
use mathlib.Core.Path.{◌≡◌}
use lib.ListN.{length, take}
use Rattle.state_events.specs.Slots.{room_for_events}
use Rattle.state_events.specs.Slots.{events_of}
use Rattle.state_queues.specs.Queue.{Held, heads_of}
use Rattle.day_records.specs.Records.{most_keys}
use Rattle.state_room.specs.PartRows.{spare_room}
use Rattle.state_room.specs.Holds.{rows_of}
use Rattle.day_run.proofs.RunLaws.{Running}
use Rattle.day_run.proofs.run_records.Given as goal

abbrev pub invariant-loop-out : goal.invariant-loop-out
invariant-loop-out l = Running l.image l.bytes (rows_of l.initial.day) l.initial.out (rows_of l.day) l.used l.written l.out ×
    (length l.keys ≡ most_keys) × (length l.actions ≡ room_for_events) × (l.ended ≡ false) × Held l.heads (heads_of (take l.day.ledger.counts.waiting (events_of l.day.events))) ×
    (length l.spare ≡ spare_room)

abbrev pub decreases-loop-out : goal.decreases-loop-out
decreases-loop-out l = length l.bytes - l.used
