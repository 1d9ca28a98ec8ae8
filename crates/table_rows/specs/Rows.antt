-- Document 01, "The table image": the fields of a row, by their names. Assumes nothing.
use Rattle.std.specs.Prelude.{ℕ, ◌+◌, ◌*◌, Bool, eqb}
use Rattle.table_rows.specs.Bytes.{Image, be}
use Rattle.table_rows.specs.Kinds.{kind_of, place, scope, reactor, mode, reaction, action, trigger, startup, reset, timer}

-- "65535 means none for parent, mode and initial mode"
abbrev pub none : ℕ
none = 65535

-- where row i of the kind k begins
unfoldable pub row_place : Image → ℕ → ℕ → ℕ
row_place s k i = place s k + i * (kind_of k).width

-- the field of w bytes at the byte `off` of that row
unfoldable pub field : ℕ → Image → ℕ → ℕ → ℕ → ℕ
field w s k i off = be w s (row_place s k i + off)

-- ---- the fields by their names

-- "scope | parent 2, reactor 2, mode 2"
abbrev pub parent : Image → ℕ → ℕ
parent s i = field 2 s scope i 0

abbrev pub scope_reactor : Image → ℕ → ℕ
scope_reactor s i = field 2 s scope i 2

abbrev pub scope_mode : Image → ℕ → ℕ
scope_mode s i = field 2 s scope i 4

-- "reactor | root scope 2, initial mode 2"
abbrev pub root_scope : Image → ℕ → ℕ
root_scope s r = field 2 s reactor r 0

abbrev pub initial_mode : Image → ℕ → ℕ
initial_mode s r = field 2 s reactor r 2

-- "mode | scope 2, reactor 2"
abbrev pub mode_scope : Image → ℕ → ℕ
mode_scope s m = field 2 s mode m 0

abbrev pub mode_reactor : Image → ℕ → ℕ
mode_reactor s m = field 2 s mode m 2

-- "reaction | level 1"
abbrev pub level : Image → ℕ → ℕ
level s n = field 1 s reaction n 0

-- "action | scope 2, logical 1"
abbrev pub action_scope : Image → ℕ → ℕ
action_scope s a = field 2 s action a 0

abbrev pub logical : Image → ℕ → ℕ
logical s a = field 1 s action a 2

unfoldable pub is_logical : Image → ℕ → Bool
is_logical s a = eqb (logical s a) 1

-- "trigger | action 2, reaction 2"
abbrev pub trigger_action : Image → ℕ → ℕ
trigger_action s j = field 2 s trigger j 0

abbrev pub trigger_reaction : Image → ℕ → ℕ
trigger_reaction s j = field 2 s trigger j 2

-- "startup | scope 2, action 2, reaction 2"
abbrev pub startup_scope : Image → ℕ → ℕ
startup_scope s j = field 2 s startup j 0

abbrev pub startup_action : Image → ℕ → ℕ
startup_action s j = field 2 s startup j 2

abbrev pub startup_reaction : Image → ℕ → ℕ
startup_reaction s j = field 2 s startup j 4

-- "reset | scope 2, reaction 2"
abbrev pub reset_scope : Image → ℕ → ℕ
reset_scope s j = field 2 s reset j 0

abbrev pub reset_reaction : Image → ℕ → ℕ
reset_reaction s j = field 2 s reset j 2

-- "timer | action 2, offset 8, microstep 4"
abbrev pub timer_action : Image → ℕ → ℕ
timer_action s j = field 2 s timer j 0

abbrev pub timer_offset : Image → ℕ → ℕ
timer_offset s j = field 8 s timer j 2

abbrev pub timer_microstep : Image → ℕ → ℕ
timer_microstep s j = field 4 s timer j 10
