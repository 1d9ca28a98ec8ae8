-- Document 01, "The table image": the rules of a row. Assumes nothing.
use Rattle.std.specs.Prelude.{ℕ, Bool, true, cond, not, ◌&&◌, ◌||◌, List, [], ◌∷◌, ltb, leb, eqb}
use Rattle.lists.specs.Lists.{every}
use Rattle.tags.specs.Tags.{Tag, at, within}
use Rattle.table_rows.specs.Bytes.{Image}
use Rattle.table_rows.specs.Kinds.{count, scope, reactor, mode, reaction, action, trigger, startup, reset, timer}
use Rattle.table_rows.specs.Rows.{none, field, parent, scope_reactor, scope_mode, root_scope, initial_mode, mode_scope, mode_reactor, level, logical, timer_offset, timer_microstep}
use Rattle.table_rows.specs.Lineage.{under}
use Rattle.table.specs.declared.KeyField.{KeyField}

-- a field that is a key: its row's kind, its place in the row, and the kind that it names
abbrev pub key : ℕ → ℕ → ℕ → KeyField
key k o n = record { kind = k; offset = o; names = n }

-- the fields that are never none
unfoldable pub key_fields : List KeyField
key_fields =
    key scope 2 reactor ∷
    key reactor 0 scope ∷
    key mode 0 scope ∷
    key mode 2 reactor ∷
    key action 0 scope ∷
    key trigger 0 action ∷
    key trigger 2 reaction ∷
    key startup 0 scope ∷
    key startup 2 action ∷
    key startup 4 reaction ∷
    key reset 0 scope ∷
    key reset 2 reaction ∷
    key timer 0 action ∷ []

abbrev pub key_count : ℕ
key_count = 13

-- "Every other key must exist."
unfoldable pub key_exists : Image → ℕ → ℕ → KeyField → Bool
key_exists s k i f = not (eqb k f.kind) || ltb (field 2 s k i f.offset) (count s f.names)

unfoldable pub keys_exist : Image → ℕ → ℕ → Bool
keys_exist s k i = every (key_exists s k i) key_fields

-- "a parent is lower than its scope"
unfoldable pub parent_rule : Image → ℕ → Bool
parent_rule s i = eqb (parent s i) none || ltb (parent s i) i

-- scope i, with parent p and reactor r, and the mode m that it names: "a scope with a mode has a parent";
-- "a mode and its scope agree on each other and on the reactor, and the scope lies strictly under the reactor's root scope"
unfoldable pub agrees : Image → ℕ → ℕ → ℕ → ℕ → Bool
agrees s i p r m =
    ltb m (count s mode) &&
    (not (eqb p none) && (eqb (mode_scope s m) i && (eqb (mode_reactor s m) r && under s (root_scope s r) i)))

unfoldable pub scope_rule : Image → ℕ → Bool
scope_rule s i = parent_rule s i && (eqb (scope_mode s i) none || agrees s i (parent s i) (scope_reactor s i) (scope_mode s i))

-- reactor r and its initial mode m: "an initial mode is of that reactor"
unfoldable pub initial_rule : Image → ℕ → ℕ → Bool
initial_rule s r m = eqb m none || (ltb m (count s mode) && eqb (mode_reactor s m) r)

unfoldable pub reactor_rule : Image → ℕ → Bool
reactor_rule s r = initial_rule s r (initial_mode s r)

-- "a mode row [answers] for a scope that doesn't name it back"
unfoldable pub mode_rule : Image → ℕ → Bool
mode_rule s m = eqb (scope_mode s (mode_scope s m)) m

abbrev pub max_level : ℕ
max_level = 15

-- "level is at most 15"
unfoldable pub reaction_rule : Image → ℕ → Bool
reaction_rule s n = leb (level s n) max_level

-- "logical is 0 or 1"
unfoldable pub action_rule : Image → ℕ → Bool
action_rule s a = leb (logical s a) 1

-- "a timer's tag is within limits"
abbrev pub timer_tag : Image → ℕ → Tag
timer_tag s j = at (timer_offset s j) (timer_microstep s j)

unfoldable pub timer_rule : Image → ℕ → Bool
timer_rule s j = within (timer_tag s j)

-- what a row of the kind k must keep besides its keys
unfoldable pub own_rule : Image → ℕ → ℕ → Bool
own_rule s k i =
    cond (eqb k scope) (scope_rule s i)
    (cond (eqb k reactor) (reactor_rule s i)
    (cond (eqb k mode) (mode_rule s i)
    (cond (eqb k reaction) (reaction_rule s i)
    (cond (eqb k action) (action_rule s i)
    (cond (eqb k timer) (timer_rule s i) true)))))

-- row i of the kind k breaks no rule
unfoldable pub row_rule : Image → ℕ → ℕ → Bool
row_rule s k i = keys_exist s k i && own_rule s k i
