-- `call_transition_events::start_all` meets its contract: the walks so far, and the scopes as they were. Assumes nothing.
use Rattle.std.specs.Prelude.{◌≡◌}
use Rattle.table_rows.specs.Kinds as K
use Rattle.table_rows.specs.Kinds.{count}
use Rattle.state_room.specs.Holds.{rows_of}
use Rattle.state_room.specs.Walks.{Walked}
use Rattle.call_transition_events.specs.Starting.{value_step, event_step}
use Rattle.call_transition_events.proofs.start_all.Given as goal

abbrev pub invariant-loop-j : goal.invariant-loop-j
invariant-loop-j l =
    Walked (value_step l.fn.image l.fn.f) (count l.fn.image K.startup) l.fn.image (rows_of l.initial.room) l.j (rows_of l.room) × (l.room.scopes ≡ l.initial.room.scopes)

abbrev pub invariant-loop-i : goal.invariant-loop-i
invariant-loop-i l =
    Walked (event_step l.fn.image l.fn.f) (count l.fn.image K.scope) l.fn.image (rows_of l.initial.room) l.i (rows_of l.room) × (l.room.scopes ≡ l.initial.room.scopes)
