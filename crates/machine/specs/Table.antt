-- What the machine asks of the table besides `table_schedule`: document 01, "The table image". Assumes nothing.
use Rattle.std.specs.Prelude.{ℕ, Bool, not, List, eqb}
use Rattle.lists.specs.Lists.{foldl}
use Rattle.table_rows.specs.Bytes.{Image}
use Rattle.table_rows.specs.Kinds as K
use Rattle.table_rows.specs.Kinds.{count}
use Rattle.table_rows.specs.Rows.{none, parent}
use Rattle.key_set.specs.Sets.{insert_key, no_keys, word_count}

abbrev pub scopes : Image → ℕ
scopes s = count s K.scope

abbrev pub reactors : Image → ℕ
reactors s = count s K.reactor

abbrev pub modes : Image → ℕ
modes s = count s K.mode

abbrev pub reactions : Image → ℕ
reactions s = count s K.reaction

abbrev pub actions : Image → ℕ
actions s = count s K.action

unfoldable pub has_parent : Image → ℕ → Bool
has_parent s i = not (eqb (parent s i) none)

-- the set of some keys
unfoldable pub set_of : List ℕ → List ℕ
set_of ks = foldl insert_key (no_keys word_count) ks
