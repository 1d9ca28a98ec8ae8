-- What the manager asks of the table besides single fields: document 01, "The plain machine" and the state rules. Assumes nothing.
use Rattle.std.specs.Prelude.{ℕ, Bool, not, ◌||◌, List, map, eqb, get_or, replicate}
use Rattle.lists.specs.Lists.{keep, any, every, from, foldl}
use Rattle.key_set.specs.Sets.{word_count, insert_key}
use Rattle.table_rows.specs.Bytes.{Image}
use Rattle.table_rows.specs.Kinds.{count, scope, trigger, startup, reset}
use Rattle.table_rows.specs.Rows.{none, field, scope_reactor, scope_mode}
use Rattle.table_rows.specs.Lineage.{lineage, in_subtree}

-- ---- modes

-- "The table is modal if some scope names a mode."
unfoldable pub names_mode : Image → ℕ → Bool
names_mode s i = not (eqb (scope_mode s i) none)

unfoldable pub is_modal : Image → Bool
is_modal s = any (names_mode s) (from 0 (count s scope))

-- scope i finds the mode it names current, where `modes` has each reactor's; or it names none
unfoldable pub is_current : Image → List ℕ → ℕ → Bool
is_current s modes i = eqb (scope_mode s i) none || eqb (get_or modes (scope_reactor s i) none) (scope_mode s i)

-- "a scope is active exactly if it and all ancestors that name a mode find it current"
unfoldable pub is_active : Image → List ℕ → ℕ → Bool
is_active s modes i = every (is_current s modes) (lineage s i)

-- ---- sets of reactions

-- the reactions at the byte `gap` of the rows of the kind k whose first field passes
unfoldable pub reactions_of : Image → ℕ → (ℕ → Bool) → ℕ → List ℕ
reactions_of s k test gap =
    foldl insert_key (replicate word_count 0) (map (λ j. field 2 s k j gap) (keep (λ j. test (field 2 s k j 0)) (from 0 (count s k))))

-- the reactions that the action a triggers
unfoldable pub triggers_of : Image → ℕ → List ℕ
triggers_of s a = reactions_of s trigger (λ x. eqb x a) 2

-- the reactions that scope i starts up
unfoldable pub startups_of : Image → ℕ → List ℕ
startups_of s i = reactions_of s startup (λ x. eqb x i) 4

-- the reactions that the subtree of the scope `top` resets
unfoldable pub resets_of : Image → ℕ → List ℕ
resets_of s top = reactions_of s reset (in_subtree s top) 2
