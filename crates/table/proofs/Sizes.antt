-- Document 01: "The smallest image has 33 bytes, the largest 3,287." Assumes nothing.
use mathlib.Core.Path.{◌≡◌, refl}
use mathlib.Core.List.{[], ◌∷◌}
use Prim.Native.Nat.{ℕ, zero, suc, ◌+◌, ◌*◌, ◌≤◌, ◌<◌}
use native.Mathlib.Nat.{le_refl, mul-le-mul_right}
use native.Mathlib.Omega.{arith}
use lib.ListN.{length, get_or}
use Rattle.lists.specs.Lists.{every}
use Rattle.lists.specs.Scan.{scan}
use Rattle.table_rows.specs.Bytes.{Image, be}
use Rattle.table_rows.specs.Kinds.{kinds, kind_of, kind_count, head_bytes, count, count_place, place, largest}
use Rattle.table_rows.specs.Limits.{versions, limits, most, limits_fit}
use Rattle.table_rows.specs.Rows.{row_place, field}
use Rattle.table_rows.specs.declared.Limits.{Limits}
use Rattle.table.specs.Rules.{key_fields, key_exists, keys_exist, parent_rule, scope_rule, initial_rule, reactor_rule, own_rule, row_rule}
use Rattle.table.specs.Check.{wrong_length, count_fits, bad_count, bad_row, kind_fits, bad_kind, check_rows, check}
use Rattle.table.specs.Table.{Table}
use Rattle.std.specs.Prelude.{Ok}
use Rattle.table.proofs.TableLaws.{count_least, count_most}

-- where the rows of the kind k begin, with c j rows of each kind j
unfoldable pub place_by : (ℕ → ℕ) → ℕ → ℕ
place_by c zero = head_bytes
place_by c (suc k) = place_by c k + c k * (kind_of k).width

more_rows : (c d : ℕ → ℕ) (k : ℕ) → ((j : ℕ) → j < k → c j ≤ d j) → place_by c k ≤ place_by d k
unfolding place_by
more_rows c d zero h = le_refl head_bytes
more_rows c d (suc k) h = omega (arith, more_rows c d k λ j l. h j (omega arith), mul-le-mul_right (kind_of k).width (h k (omega arith)))

by_counts : (s : Image) (k : ℕ) → place_by (count s) k ≡ place s k
unfolding place_by place
by_counts s zero = refl
by_counts s (suc k) = rw (by_counts s k)

-- where they end, of a version's most of each kind
size_by : Limits → ℕ
size_by l = place_by (λ k. get_or l.most k 0) kind_count

most_end : (s : Image) → size_by (limits s) ≤ largest
unfolding size_by place_by kind_of kinds versions every
most_end s = limits_fit size_by largest tt s

-- where the rows end, with no more of a kind than the most
pub rows_end : (s : Image) → ((k : ℕ) → k < kind_count → count s k ≤ most s k) → place s kind_count ≤ largest
unfolding size_by
rows_end s h = omega (arith, by_counts s kind_count, more_rows (count s) (most s) kind_count h, most_end s)

module _ (s : Image) (t : Table s) where
  pub no_larger : length s ≤ largest
  no_larger = omega (arith, t.filled, rows_end s (count_most s t))

  pub no_smaller : 33 ≤ length s
  unfolding place_by kind_of kinds
  no_smaller = omega (arith, t.filled, by_counts s kind_count, more_rows (λ k. (kind_of k).least) (count s) kind_count (count_least s t))

-- one scope without a parent or a mode, one reactor rooted in it without an initial mode
abbrev pub smallest : Image
smallest =
    0 ∷ 0 ∷ 0 ∷ 29 ∷ 1 ∷ 0 ∷ 1 ∷ 0 ∷ 1 ∷ 0 ∷ 0 ∷ 0 ∷ 0 ∷ 0 ∷ 0 ∷ 0 ∷ 0 ∷ 0 ∷ 0 ∷ 0 ∷ 0 ∷ 0 ∷ 0 ∷
    255 ∷ 255 ∷ 0 ∷ 0 ∷ 255 ∷ 255 ∷ 0 ∷ 0 ∷ 255 ∷ 255 ∷ []

pub smallest_size : length smallest ≡ 33
smallest_size = refl

pub smallest_accepted : check smallest ≡ Ok tt
unfolding check wrong_length be count_fits bad_count bad_row kind_fits bad_kind check_rows scan kind_of kinds versions limits count count_place place row_place field key_fields key_exists keys_exist every
    parent_rule scope_rule initial_rule reactor_rule own_rule row_rule
smallest_accepted = refl
