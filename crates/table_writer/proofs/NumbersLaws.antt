-- The counts and rows of numbers, put one behind the other. Assumes nothing.
use mathlib.Core.Path.{◌≡◌, refl}
use mathlib.Core.List.{List}
use Prim.Native.Nat.{ℕ, ◌+◌, ◌*◌, ◌≤◌}
use native.Mathlib.Numerals.{add-one}
use native.Mathlib.Omega.{arith}
use lib.ListN.{length}
use Rattle.table_rows.specs.Bytes.{be, be_bytes}
use Rattle.table_rows.specs.Kinds.{kind_count}
use Rattle.table_rows.specs.Fields.{fields_of}
use Rattle.table_rows.specs.declared.Fields.{Fields}
use Rattle.byte_writer.specs.Written.{Written}
use Rattle.byte_writer.proofs.WrittenLaws.{written_none, written_then, written_as}
use Rattle.table_writer.specs.Numbers.{number_at, counts_in, row_bytes, kind_rows, count_in, rows_before, rows_in}

-- ---- a row

module _ (ns : List ℕ) (j : ℕ) where
  number_is : (f : ℕ) {at n : ℕ} → at ≡ 8 * (kind_count + (3 * j + f)) → n ≡ be 8 ns at → n ≡ number_at ns (kind_count + (3 * j + f))
  unfolding number_at
  number_is f e h = rw e at h

  pub row_written : (k : ℕ) {q : Fields} {a b c : ℕ} {old one two new : List ℕ} {at i m end : ℕ} → q ≡ fields_of k →
      a ≡ be 8 ns (72 + 24 * j) → b ≡ be 8 ns (72 + 24 * j + 8) → c ≡ be 8 ns (72 + 24 * j + 16) →
      Written old at (be_bytes q.first a) one i → Written one i (be_bytes q.second b) two m → Written two m (be_bytes q.third c) new end →
      Written old at (row_bytes k ns j) new end
  unfolding row_bytes
  row_written k e ea eb ec wa wb wc =
      written_as (written_then wa (written_then wb wc))
      (rw (e, number_is 0 (omega arith) ea, number_is 1 (omega arith) eb, number_is 2 (omega arith) ec))

-- ---- rows

module _ (k : ℕ) (ns : List ℕ) (j : ℕ) {old : List ℕ} {at : ℕ} where
  pub no_rows : at ≤ length old → Written old at (kind_rows k ns j 0) old at
  unfolding kind_rows
  no_rows h = written_none old at h

  pub one_row_more : (i : ℕ) {m end : ℕ} {mid new : List ℕ} → Written old at (kind_rows k ns j i) mid m → Written mid m (row_bytes k ns (j + i)) new end →
      Written old at (kind_rows k ns j (i + 1)) new end
  unfolding kind_rows
  one_row_more i v w = rw add-one (written_then v w)

-- ---- counts

module _ (ns : List ℕ) {old : List ℕ} where
  pub no_counts : {at : ℕ} → at ≤ length old → Written old at (counts_in ns 0) old at
  unfolding counts_in
  no_counts h = written_none old _ h

  module _ (k : ℕ) {at m : ℕ} {mid : List ℕ} where
    pub one_count_more : Written old at (counts_in ns k) mid m → {n : ℕ} → n ≡ be 8 ns (8 * k) → {new : List ℕ} {end : ℕ} → Written mid m (be_bytes 2 n) new end →
        Written old at (counts_in ns (k + 1)) new end
    unfolding counts_in number_at
    one_count_more v e w = rw (add-one, ← e) (written_then v w)

-- ---- all rows

module _ (counts : List ℕ) where
  pub none_before : 0 ≡ rows_before counts 0
  unfolding rows_before
  none_before = refl

  pub before_next : (k : ℕ) {j n : ℕ} → j ≡ rows_before counts k → n ≡ be 2 counts (2 * k) → j + n ≡ rows_before counts (k + 1)
  unfolding rows_before count_in
  before_next k e f = rw (add-one, e, f)

  module _ (ns : List ℕ) {old : List ℕ} {at : ℕ} where
    pub no_kinds : at ≤ length old → Written old at (rows_in counts ns 0) old at
    unfolding rows_in
    no_kinds h = written_none old at h

    pub one_kind_more : (k : ℕ) {j n : ℕ} → j ≡ rows_before counts k → n ≡ be 2 counts (2 * k) → {mid new : List ℕ} {m end : ℕ} →
        Written old at (rows_in counts ns k) mid m → Written mid m (kind_rows k ns j n) new end → Written old at (rows_in counts ns (k + 1)) new end
    unfolding rows_in count_in
    one_kind_more k e f v w = rw (add-one, ← e, ← f) (written_then v w)
