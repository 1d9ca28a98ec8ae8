-- `call_transition_events::restart_all` meets its contract: the walk so far, and the scopes as they were. Assumes nothing.
use Rattle.std.specs.Prelude.{◌≡◌}
use Rattle.table_rows.specs.Kinds as K
use Rattle.table_rows.specs.Kinds.{count}
use Rattle.state_room.specs.Holds.{rows_of}
use Rattle.state_room.specs.Walks.{Walked}
use Rattle.call_transition_events.specs.Starting.{timer_step}
use Rattle.call_transition_events.proofs.restart_all.Given as goal

abbrev pub invariant-loop-j : goal.invariant-loop-j
invariant-loop-j l =
    Walked (timer_step l.fn.image l.fn.plan.inside.words) (count l.fn.image K.timer) l.fn.image (rows_of l.initial.room) l.j (rows_of l.room) × (l.room.scopes ≡ l.initial.room.scopes)
