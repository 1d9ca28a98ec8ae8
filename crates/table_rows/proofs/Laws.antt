-- Laws of the image's bytes, kinds and rows, in the form that the code meets them. Assumes nothing.
use mathlib.Core.Path.{◌≡◌, refl, sym}
use mathlib.Core.Bool.{Bool, ◌&&◌}
use mathlib.Core.List.{List, [], ◌∷◌}
use Prim.Native.Nat.{ℕ, zero, suc, ◌+◌, ◌-◌, ◌*◌, ◌^◌, ◌≤◌, ◌<◌}
use native.Mathlib.Numerals.{add-one}
use native.Mathlib.Nat.{le_trans, mul-le-mul, le_of_lt, pow-le-pow_right}
use native.Mathlib.Omega.{arith}
use lib.Dec.{T, leb, leb→le, lit<}
use lib.ListN.{length, get_or, get_or-eq_default}
use Rattle.lists.specs.Tests.{T-left, T-right}
use Rattle.lists.specs.Lists.{every, entry_at}
use Rattle.table_rows.specs.Bytes.{Image, be, be_room}
use Rattle.table_rows.specs.Kinds.{kind, kinds, kind_count, widest, kind_of, count, place}
use Rattle.table_rows.specs.Limits.{version1, versions, limits, most, limits_fit}
use Rattle.table_rows.specs.Rows.{row_place, field}
use Rattle.table_rows.specs.Fields.{fields, field_table, fields_of, field_of}
use Rattle.table_rows.specs.declared.Fields.{Fields}
use Rattle.table_rows.specs.declared.Kind.{Kind}
use Rattle.table_rows.specs.declared.Limits.{Limits}

-- eight bytes fit
pub be_fits : (k w n b : ℕ) → n < 256 ^ k → b < 256 → k < w → w ≤ 8 → n * 256 + b < 2 ^ 64
be_fits k w n b h l m e = let top : k + 1 ≤ 8 = omega arith in omega (arith, be_room k n b h l, pow-le-pow_right {n = 256} (lit< tt) top)

thin : Kind → Bool
thin q = leb q.width widest

pub width_le : (k : ℕ) → (kind_of k).width ≤ widest
unfolding kinds kind_of thin every
width_le k = leb→le (kind_of k).width widest (entry_at thin kinds (kind 0 0) tt tt k)

-- no kind past the nine has rows
pub kind_past : (k : ℕ) → length kinds ≤ k → kind 0 0 ≡ kind_of k
unfolding kind_of
kind_past k h = sym (get_or-eq_default kinds (kind 0 0) h)

pub fields_past : (k : ℕ) → length field_table ≤ k → fields 0 0 0 ≡ fields_of k
unfolding fields_of
fields_past k h = sym (get_or-eq_default field_table (fields 0 0 0) h)

-- what a row in the table holds is the same, whatever stands past its end
same_entry : (l : List Limits) (k : ℕ) (d e : Limits) → k < length l → get_or l k d ≡ get_or l k e
same_entry [] k d e h = absurd (omega arith)
same_entry (x ∷ l) zero d e h = refl
same_entry (x ∷ l) (suc k) d e h = same_entry l k d e (omega arith)

-- the limits by the version that the code read
module _ (s : Image) {v : ℕ} (e : v ≡ be 1 s 4) where
  pub limits_none : v < 1 → version1 ≡ limits s
  unfolding limits versions
  limits_none h = let z : be 1 s 4 - 1 ≡ 0 = omega arith in rw z

  pub limits_row : (d : Limits) → v - 1 < length versions → get_or versions (v - 1) d ≡ limits s
  unfolding limits
  limits_row d h = rw (← e) (same_entry versions (v - 1) d version1 h)

  pub limits_past : length versions ≤ v - 1 → version1 ≡ limits s
  unfolding limits
  limits_past h = rw (← e) (sym (get_or-eq_default versions version1 h))

-- no version has rows of a kind past the nine
pub most_past : (s : Image) (k : ℕ) → kind_count ≤ k → 0 ≡ most s k
unfolding versions every
most_past s k h = sym (get_or-eq_default (limits s).most 0 (le_trans (limits_fit (λ l. length l.most) kind_count tt s) h))

-- no field has more than eight bytes
slim : Fields → Bool
slim q = leb q.first 8 && (leb q.second 8 && leb q.third 8)

module _ (k : ℕ) where
  abbrev q : Fields
  q = fields_of k

  all_slim : T (slim q)
  unfolding field_table fields_of slim every
  all_slim = entry_at slim field_table (fields 0 0 0) tt tt k

  pub first_le : q.first ≤ 8
  unfolding slim
  first_le = leb→le q.first 8 (T-left (leb q.first 8) _ all_slim)

  others_slim : T (leb q.second 8 && leb q.third 8)
  unfolding slim
  others_slim = T-right (leb q.first 8) _ all_slim

  pub second_le : q.second ≤ 8
  second_le = leb→le q.second 8 (T-left (leb q.second 8) _ others_slim)

  pub third_le : q.third ≤ 8
  third_le = leb→le q.third 8 (T-right (leb q.second 8) _ others_slim)

-- field f, read at its row's place
module _ (s : Image) (k i f : ℕ) {q : Fields} (e : q ≡ fields_of k) {at r : ℕ} where
  pub field_first : f ≡ 0 → at ≡ row_place s k i + 0 → r ≡ be q.first s at → r ≡ field_of s k i f
  unfolding field_of field
  field_first h p g = rw (h, ← e, ← p) g

  pub field_second : f ≡ 1 → at ≡ row_place s k i + q.first → r ≡ be q.second s at → r ≡ field_of s k i f
  unfolding field_of field
  field_second h p g = rw (h, ← e, ← p) g

  pub field_third : (f ≡ 0 → ⊥) → (f ≡ 1 → ⊥) → at ≡ row_place s k i + (q.first + q.second) → r ≡ be q.third s at → r ≡ field_of s k i f
  unfolding field_of field
  field_third h l p g = let z : f ≡ suc (suc (f - 2)) = omega (arith, h, l) in rw (z, ← e, ← p) g

-- the rows of one kind, of which a count of two bytes says how many
pub rows_le : (n w : ℕ) → n < 2 ^ 16 → w ≤ widest → n * w ≤ 2 ^ 16 * widest
rows_le n w hn hw = omega (arith, mul-le-mul (le_of_lt hn) hw)

-- one kind further
pub place_next : (s : Image) (j at n : ℕ) (q : Kind) → at ≡ place s j → n ≡ count s j → q ≡ kind_of j → at + n * q.width ≡ place s (j + 1)
unfolding place
place_next s j at n q a b c = rw add-one (simp (a, b, c))

pub row_sum : (s : Image) (k i at : ℕ) (q : Kind) → at ≡ place s k → q ≡ kind_of k → at + i * q.width ≡ row_place s k i
unfolding row_place
row_sum s k i at q a b = simp (a, b)

-- a field read at its row's place
pub field_at : (w : ℕ) (s : Image) (k i off : ℕ) {at r : ℕ} → at ≡ row_place s k i + off → r ≡ be w s at → r ≡ field w s k i off
unfolding field
field_at w s k i off e h = rw (← e) h
