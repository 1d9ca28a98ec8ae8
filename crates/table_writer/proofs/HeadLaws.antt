-- Images that begin with the same 23 bytes have the same counts, and the same places for their rows. Assumes nothing.
use mathlib.Core.Path.{◌≡◌, refl, ap, ◌∙◌}
use Prim.Native.Nat.{ℕ, zero, suc, ◌+◌, ◌-◌, ◌*◌, ◌≤◌, ◌<◌}
use native.Mathlib.Nat.{zero-add}
use native.Mathlib.Omega.{arith}
use lib.Dec.{leb}
use lib.ListN.{get_or}
use borrow.Author.Tests.{leb-true}
use Rattle.lists.specs.Scan.{scan_all, scan_same}
use Rattle.lists.specs.Tests.{and_right}
use Rattle.table_rows.specs.Bytes.{Image, be}
use Rattle.table_rows.specs.Kinds.{kind_of, kind_count, head_bytes, count, count_place, place, largest}
use Rattle.table_rows.specs.Limits.{version1, versions, limits}
use Rattle.table.specs.Check.{count_fits, bad_count}
use Rattle.table.proofs.Sizes.{rows_end}

module _ (s t : Image) (h : (i : ℕ) → i < head_bytes → get_or s i 0 ≡ get_or t i 0) where
  same_number : (w at : ℕ) → at + w ≤ head_bytes → be w s at ≡ be w t at
  unfolding be
  same_number zero at l = refl
  same_number (suc w) at l = ap (λ n. n * 256 + get_or s (at + w) 0) (same_number w at (omega arith)) ∙ ap (λ b. be w t at * 256 + b) (h (at + w) (omega arith))

  pub same_count : (k : ℕ) → k < kind_count → count s k ≡ count t k
  unfolding count count_place
  same_count k l = same_number 2 (5 + 2 * k) (omega arith)

  same_limits : limits s ≡ limits t
  unfolding limits
  same_limits = ap (λ v. get_or versions (v - 1) version1) (same_number 1 4 (omega arith))

  same_fits : (k : ℕ) → k < kind_count → count_fits s k ≡ count_fits t k
  unfolding count_fits
  same_fits k l = rw (same_count k l, same_limits)

  pub same_bad_count : bad_count s ≡ bad_count t
  unfolding bad_count
  same_bad_count = scan_same (count_fits s) (count_fits t) kind_count 0 (λ k l. rw zero-add (same_fits k l))

  places : (k : ℕ) → k ≤ kind_count → place s k ≡ place t k
  unfolding place
  places zero l = refl
  places (suc k) l = ap (λ p. p + count s k * (kind_of k).width) (places k (omega arith)) ∙ ap (λ n. place t k + n * (kind_of k).width) (same_count k (omega arith))

  pub same_end : place s kind_count ≡ place t kind_count
  same_end = places kind_count (omega arith)

-- counts that fit name no more rows than the largest image has
pub end_fits : (s : Image) → kind_count ≤ bad_count s → place s kind_count ≤ largest
unfolding bad_count count_fits
end_fits s h = rows_end s λ k l. leb-true _ _ (and_right (leb (kind_of k).least (count s k)) _ (rw zero-add at (scan_all (count_fits s) kind_count 0 h k l)))
