-- The kept bytes and the dropped runs as parts of the file. Assumes nothing.
use Rattle.std.specs.Prelude.{ℕ, ◌+◌, ◌-◌, ◌<◌, ◌≤◌, true, ◌≡◌, List, [], ◌∷◌, ◌++◌, take, drop}
use Rattle.lists.specs.Lists.{every}
use Rattle.day_records.specs.Records.{is_formed, records_from}
use Rattle.day_rescue.specs.declared.Run.{Run}
use Rattle.day_rescue.specs.Rescue.{past}

-- the bytes from a place on, the runs taken out
unfoldable pub without : ℕ → List Run → List ℕ → List ℕ
without place [] s = s
without place (r ∷ rs) s = take (r.place - place) s ++ without (past r) rs (drop (past r - place) s)

-- how many bytes the runs have
unfoldable pub total : List Run → ℕ
total [] = 0
total (r ∷ rs) = r.length + total rs

-- runs in order, from a place on and not past an end: none is empty, and six bytes or more, the shortest record, stand between one and the next
unfoldable pub Ordered : ℕ → List Run → ℕ → Type 0
Ordered least [] end = Unit
Ordered least (r ∷ rs) end = (least ≤ r.place) × (0 < r.length) × (past r ≤ end) × Ordered (past r + 6) rs end

-- all records of these bytes are well formed: none is malformed, and none is cut off
abbrev pub AllFormed : List ℕ → Type 0
AllFormed s = every is_formed (records_from s 0) ≡ true
