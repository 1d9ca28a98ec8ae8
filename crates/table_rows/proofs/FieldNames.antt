-- The fields by their names are those that the table of widths names, in the same order. Assumes nothing.
use mathlib.Core.Path.{◌≡◌, refl}
use Prim.Native.Nat.{ℕ}
use Rattle.table_rows.specs.Bytes.{Image}
use Rattle.table_rows.specs.Kinds.{scope, reactor, mode, reaction, action, trigger, startup, reset, timer}
use Rattle.table_rows.specs.Rows as rows
use Rattle.table_rows.specs.Fields.{field_table, fields_of, field_of}

module _ (s : Image) (i : ℕ) where
  pub scope_fields : (field_of s scope i 0 ≡ rows.parent s i) × (field_of s scope i 1 ≡ rows.scope_reactor s i) × (field_of s scope i 2 ≡ rows.scope_mode s i)
  unfolding field_of fields_of field_table
  scope_fields = (refl, refl, refl)

  pub reactor_fields : (field_of s reactor i 0 ≡ rows.root_scope s i) × (field_of s reactor i 1 ≡ rows.initial_mode s i)
  unfolding field_of fields_of field_table
  reactor_fields = (refl, refl)

  pub mode_fields : (field_of s mode i 0 ≡ rows.mode_scope s i) × (field_of s mode i 1 ≡ rows.mode_reactor s i)
  unfolding field_of fields_of field_table
  mode_fields = (refl, refl)

  pub reaction_fields : field_of s reaction i 0 ≡ rows.level s i
  unfolding field_of fields_of field_table
  reaction_fields = refl

  pub action_fields : (field_of s action i 0 ≡ rows.action_scope s i) × (field_of s action i 1 ≡ rows.logical s i)
  unfolding field_of fields_of field_table
  action_fields = (refl, refl)

  pub trigger_fields : (field_of s trigger i 0 ≡ rows.trigger_action s i) × (field_of s trigger i 1 ≡ rows.trigger_reaction s i)
  unfolding field_of fields_of field_table
  trigger_fields = (refl, refl)

  pub startup_fields : (field_of s startup i 0 ≡ rows.startup_scope s i) × (field_of s startup i 1 ≡ rows.startup_action s i) × (field_of s startup i 2 ≡ rows.startup_reaction s i)
  unfolding field_of fields_of field_table
  startup_fields = (refl, refl, refl)

  pub reset_fields : (field_of s reset i 0 ≡ rows.reset_scope s i) × (field_of s reset i 1 ≡ rows.reset_reaction s i)
  unfolding field_of fields_of field_table
  reset_fields = (refl, refl)

  pub timer_fields : (field_of s timer i 0 ≡ rows.timer_action s i) × (field_of s timer i 1 ≡ rows.timer_offset s i) × (field_of s timer i 2 ≡ rows.timer_microstep s i)
  unfolding field_of fields_of field_table
  timer_fields = (refl, refl, refl)
