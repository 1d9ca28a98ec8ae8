-- What the parts of the rescue do, by places of the bytes. Assumes nothing.
use Rattle.std.specs.Prelude.{ℕ, ◌+◌, ◌-◌, ◌≤◌, ◌<◌, true, false, cond, ◌≡◌, List, length, Option, Some}
use Rattle.std.specs.Prelude as code
use Rattle.day_records.specs.Records.{is_formed, length_at, record_at, behind}
use Rattle.day_rescue.specs.declared.Run.{Run}
use Rattle.day_rescue.specs.Rescue.{run, past, listed, before, between, walk}

-- a well-formed record stands at a place, or none does
abbrev pub Stands : List ℕ → ℕ → Type 0
Stands s i = is_formed (record_at s i) ≡ true

abbrev pub None : List ℕ → ℕ → Type 0
None s i = is_formed (record_at s i) ≡ false

-- how many bytes it has; 0 where none stands
unfoldable pub size_at : List ℕ → ℕ → ℕ
size_at s i = cond (is_formed (record_at s i)) (behind i (length_at s i) - i) 0

-- as the code has it: its size, or none
abbrev pub Sized : List ℕ → ℕ → Option ℕ → Type 0
Sized s i (Some n) = Stands s i × (n ≡ size_at s i)
Sized s i code.None = None s i

-- none stands here and at the next place
pub record Barren (s : List ℕ) (i : ℕ) : Type 0 where
  pub here : None s i
  pub next : None s (i + 1)

-- none stands at the places from one up to another
pub record Passed (s : List ℕ) (from at : ℕ) : Type 0 where
  pub forward : from ≤ at
  pub none : (k : ℕ) → from ≤ k → k < at → None s k

-- places before it have six bytes or more from them on; from it up to the end none stands
pub record RoomyEnd (s : List ℕ) (end stop : ℕ) : Type 0 where
  pub inside : stop ≤ end
  pub room : 0 < stop → stop + 5 ≤ length s
  pub none : (k : ℕ) → stop ≤ k → k < end → None s k

-- the first place where one stands, or the end
pub record Skipped (s : List ℕ) (end from at : ℕ) : Type 0 where
  pub passed : Passed s from at
  pub inside : at ≤ end
  pub stands : at < end → Stands s at

-- n records one behind the other: all that is kept from the first on, up to where they end
pub record Stretched (s : List ℕ) (end from at n : ℕ) : Type 0 where
  pub forward : from ≤ at
  pub inside : at ≤ length s
  pub few : from + n ≤ at
  pub first : at ≡ from → n ≡ 0
  pub long : from < at → from + 6 ≤ at
  pub walks : from < at → (r : Run) → walk s end from r ≡ before (between s from at) n (listed r) (walk s end at (run (past r + (at - from)) 0))
