-- What the check of the rows finds, kind by kind, in the form that the code meets it. Assumes nothing.
use Prim.Native.Nat.{ℕ, ◌≤◌, ◌<◌}
use mathlib.Core.Path.{◌≡◌, sym}
use mathlib.Core.Bool.{true, false}
use borrow.Author.Tests.{lt-ltb, le-ltb, le-leb, lt-leb}
use Rattle.table_rows.specs.Bytes.{Image}
use Rattle.table_rows.specs.Kinds.{kind_count, count}
use Rattle.table_rows.specs.Rows.{row_place}
use Rattle.table.specs.Check.{bad_row, kind_fits, bad_kind, check_rows}
use Rattle.std.specs.Prelude.{Ok, Err}
use Rattle.table.specs.declared.ImageRefusal.TheVariants.{Row}

-- the rows: the first kind with a row that breaks a rule
module _ (s : Image) (k : ℕ) where
  pub kind_broken : {i n : ℕ} → i ≡ bad_row s k → n ≡ count s k → i < n → kind_fits s k ≡ false
  unfolding kind_fits
  kind_broken e f h = simp (← e, ← f, lt-leb _ _ h)

  pub kind_kept : {i n : ℕ} → i ≡ bad_row s k → n ≡ count s k → n ≤ i → kind_fits s k ≡ true
  unfolding kind_fits
  kind_kept e f h = simp (← e, ← f, le-leb _ _ h)

  pub rows_broken : {i p : ℕ} → k ≡ bad_kind s → k < kind_count → i ≡ bad_row s k → p ≡ row_place s k i → Err (Row p) ≡ check_rows s
  unfolding check_rows
  rows_broken e h f g = sym (simp (← e, lt-ltb _ _ h, ← f, ← g))

  pub rows_kept : k ≡ bad_kind s → kind_count ≤ k → Ok tt ≡ check_rows s
  unfolding check_rows
  rows_kept e h = sym (simp (← e, le-ltb _ _ h))
