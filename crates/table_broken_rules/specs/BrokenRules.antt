-- Which rule of document 01's list a row breaks: the first that fails, in the order of "Every other key must exist. Also: ..". Assumes nothing.
use Rattle.std.specs.Prelude.{ℕ, Bool, cond, not, List, [], ◌∷◌, ltb, eqb, get_or, Option, Some, None}
use Rattle.lists.specs.Scan.{scan}
use Rattle.table_rows.specs.Bytes.{Image}
use Rattle.table_rows.specs.Kinds.{count, scope, reactor, mode, reaction, action, timer}
use Rattle.table_rows.specs.Rows.{none, parent, scope_reactor, scope_mode, root_scope, initial_mode, mode_scope, mode_reactor}
use Rattle.table_rows.specs.Fields as fields
use Rattle.table_rows.specs.Lineage.{under}
use Rattle.table.specs.declared.KeyField.{KeyField}
use Rattle.table.specs.Rules.{key, key_fields, key_count, key_exists, parent_rule, reaction_rule, action_rule, timer_rule}
use Rattle.table_broken_rules.specs.declared.Rule.{Rule}
use Rattle.table_broken_rules.specs.declared.Rule.TheVariants.{Key, Parent, NoMode, NoParent, OtherScope, OtherReactor}
use Rattle.table_broken_rules.specs.declared.Rule.TheVariants.{NotUnder, NoInitial, InitialElsewhere, NotNamedBack, Level, Logical, TimerTag}

abbrev pub field_at : ℕ → KeyField
field_at j = get_or key_fields j (key 0 0 0)

-- "Every other key must exist.": the first key field of row i of the kind k that does not, or how many fields there are
unfoldable pub missing_key : Image → ℕ → ℕ → ℕ
missing_key s k i = scan (λ j. key_exists s k i (field_at j)) 0 key_count

-- a test that must hold, or the rule that is broken
abbrev pub must : Bool → Rule → Option Rule → Option Rule
must b broken rest = cond b rest (Some broken)

-- scope i, with parent p and reactor r, and the mode m that it names: "a scope with a mode has a parent"; "a mode and its scope agree on
-- each other and on the reactor, and the scope lies strictly under the reactor's root scope"
unfoldable pub mode_fault : Image → ℕ → ℕ → ℕ → ℕ → Option Rule
mode_fault s i p r m =
    must (ltb m (count s mode)) NoMode
    (must (not (eqb p none)) NoParent
    (must (eqb (mode_scope s m) i) OtherScope
    (must (eqb (mode_reactor s m) r) OtherReactor (must (under s (root_scope s r) i) NotUnder None))))

-- "a parent is lower than its scope", and what is said of its mode
unfoldable pub scope_fault : Image → ℕ → Option Rule
scope_fault s i =
    must (parent_rule s i) Parent
    (cond (eqb (scope_mode s i) none) None (mode_fault s i (parent s i) (scope_reactor s i) (scope_mode s i)))

-- reactor r and its initial mode m: "an initial mode is of that reactor"
unfoldable pub initial_fault : Image → ℕ → ℕ → Option Rule
initial_fault s r m = cond (eqb m none) None (must (ltb m (count s mode)) NoInitial (must (eqb (mode_reactor s m) r) InitialElsewhere None))

unfoldable pub reactor_fault : Image → ℕ → Option Rule
reactor_fault s r = initial_fault s r (initial_mode s r)

-- "a mode row [answers] for a scope that doesn't name it back"
unfoldable pub mode_row_fault : Image → ℕ → Option Rule
mode_row_fault s m = must (eqb (scope_mode s (mode_scope s m)) m) NotNamedBack None

-- "level is at most 15; logical is 0 or 1; a timer's tag is within limits"
unfoldable pub level_fault : Image → ℕ → Option Rule
level_fault s i = must (reaction_rule s i) Level None

unfoldable pub logical_fault : Image → ℕ → Option Rule
logical_fault s i = must (action_rule s i) Logical None

unfoldable pub timer_fault : Image → ℕ → Option Rule
timer_fault s i = must (timer_rule s i) TimerTag None

-- what a row of the kind k breaks besides its keys
unfoldable pub own_fault : Image → ℕ → ℕ → Option Rule
own_fault s k i =
    cond (eqb k scope) (scope_fault s i)
    (cond (eqb k reactor) (reactor_fault s i)
    (cond (eqb k mode) (mode_row_fault s i)
    (cond (eqb k reaction) (level_fault s i)
    (cond (eqb k action) (logical_fault s i)
    (cond (eqb k timer) (timer_fault s i) None)))))

unfoldable pub broken_rule : Image → ℕ → ℕ → Option Rule
broken_rule s k i = cond (ltb (missing_key s k i) key_count) (Some (Key (missing_key s k i))) (own_fault s k i)

-- ---- as numbers

abbrev pub rule_number : Option Rule → ℕ
rule_number None = 0
rule_number (Some (Key j)) = 1
rule_number (Some Parent) = 2
rule_number (Some NoMode) = 3
rule_number (Some NoParent) = 4
rule_number (Some OtherScope) = 5
rule_number (Some OtherReactor) = 6
rule_number (Some NotUnder) = 7
rule_number (Some NoInitial) = 8
rule_number (Some InitialElsewhere) = 9
rule_number (Some NotNamedBack) = 10
rule_number (Some Level) = 11
rule_number (Some Logical) = 12
rule_number (Some TimerTag) = 13

-- the key field that a rule speaks of; one past the last where it speaks of none
abbrev pub field_of : Option Rule → ℕ
field_of None = key_count
field_of (Some (Key j)) = j
field_of (Some Parent) = key_count
field_of (Some NoMode) = key_count
field_of (Some NoParent) = key_count
field_of (Some OtherScope) = key_count
field_of (Some OtherReactor) = key_count
field_of (Some NotUnder) = key_count
field_of (Some NoInitial) = key_count
field_of (Some InitialElsewhere) = key_count
field_of (Some NotNamedBack) = key_count
field_of (Some Level) = key_count
field_of (Some Logical) = key_count
field_of (Some TimerTag) = key_count

-- the row, the rule's number, and of a missing key its place in the row and the kind that it names
unfoldable pub fault_words : Image → ℕ → ℕ → List ℕ
fault_words s k i =
    let rule = broken_rule s k i in
    k ∷ i ∷ rule_number rule ∷ (field_at (field_of rule)).offset ∷ (field_at (field_of rule)).names ∷ []

-- the row and its fields; 0 for a field that the kind does not have
abbrev pub row_words : Image → ℕ → ℕ → List ℕ
row_words s k i = k ∷ i ∷ fields.field_of s k i 0 ∷ fields.field_of s k i 1 ∷ fields.field_of s k i 2 ∷ []
