-- The code's answers as those of the definitions. Assumes nothing.
use Rattle.std.specs.Prelude.{ℕ, List, Some, None}
use Rattle.std.specs.Prelude as code
use Rattle.std.proofs.Math.Option.{Option, none, some}
use Rattle.key_set.specs.declared.Keys.{Keys}
use Rattle.key_set.specs.Sets.{keys_from}

-- the key, or none
abbrev pub found_of : code.Option ℕ → Option ℕ
found_of (Some k) = some k
found_of None = none

-- the keys that are still to come
abbrev pub keys_left : Keys → List ℕ
keys_left s = keys_from s.set.words s.at
