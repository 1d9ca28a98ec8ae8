-- No place that the reader or the writer answers lies behind the largest image, and no image is larger. Assumes nothing.
use mathlib.Core.Path.{◌≡◌, refl}
use mathlib.Core.Bool.{Bool, true, false, cond, not}
use mathlib.Core.List.{List}
use mathlib.Core.Logic.{◌⊎◌, inl, inr}
use Prim.Native.Nat.{ℕ, zero, suc, ◌+◌, ◌*◌, ◌≤◌, ◌<◌}
use native.Mathlib.Nat.{le_refl, mul-le-mul_right}
use native.Mathlib.Omega.{arith}
use lib.Dec.{ltb, eqb}
use lib.ListN.{length}
use borrow.Author.Tests.{ltb-true, ltb-false, eqb-true, leb-false}
use lib.Seq.{sets}
use Rattle.lists.specs.Tests.{below?}
use Rattle.lists.specs.Scan.{scan_stops}
use Rattle.table_rows.specs.Bytes.{Image, be}
use Rattle.table_rows.specs.Kinds.{kind_of, kind_count, count, count_place, place, largest}
use Rattle.table_rows.specs.Rows.{row_place}
use Rattle.table.specs.Check as table
use Rattle.table.specs.Check.{bad_count, bad_row, kind_fits, bad_kind, check_rows, check_body, check, wrong_length, version}
use Rattle.table.specs.Check.{Checked}
use Rattle.std.specs.Prelude.{Ok, Err}
use Rattle.table.specs.declared.ImageRefusal.TheVariants.{Length, Version, Short, Count, Unfilled, Row}
use Rattle.table_writer.specs.Writer.{image_of, count_bytes, wrote, placed, writing, place_of}
use Rattle.table_writer.specs.declared.WriteRefusal.TheVariants as refusals
use Rattle.table_writer.proofs.HeadLaws.{end_fits}

-- a row lies before the end of all rows
module _ (s : Image) where
  later : (k m : ℕ) → k ≤ m → place s k ≤ place s m
  unfolding place
  later k zero l = let e : k ≡ 0 = omega arith in rw e (le_refl (place s 0))
  later k (suc m) l = go (below? k (suc m)) λ g. later k m g
    where
      go : (k < suc m) ⊎ (suc m ≤ k) → (k ≤ m → place s k ≤ place s m) → place s k ≤ place s m + count s m * (kind_of m).width
      go (inl g) r = let z = r (omega arith) in omega (arith, z)
      go (inr g) r = let e : k ≡ suc m = omega arith in rw e (le_refl (place s (suc m)))

  row_inside : (k i : ℕ) → k < kind_count → i < count s k → row_place s k i ≤ place s kind_count
  unfolding row_place place
  row_inside k i l h =
      let z : place s (suc k) ≤ place s kind_count = later (suc k) kind_count l in
      let y : suc i * (kind_of k).width ≤ count s k * (kind_of k).width = mul-le-mul_right (kind_of k).width h in
      omega (arith, z, y)

  bad_inside : bad_kind s < kind_count → row_place s (bad_kind s) (bad_row s (bad_kind s)) ≤ place s kind_count
  unfolding bad_kind kind_fits
  bad_inside h = row_inside (bad_kind s) (bad_row s (bad_kind s)) h (leb-false _ _ (scan_stops (kind_fits s) kind_count 0 h))

  -- the place that is answered, and all of an image that is accepted
  abbrev pub place_in : Checked → ℕ
  place_in (Ok u) = length s
  place_in (Err why) = table.place_of why

  rows_small : place s kind_count ≤ largest → place s kind_count ≡ length s → place_in (check_rows s) ≤ largest
  unfolding check_rows
  rows_small h f = go (ltb (bad_kind s) kind_count) refl
    where
      go : (b : Bool) → ltb (bad_kind s) kind_count ≡ b → place_in (cond b (Err (Row (row_place s (bad_kind s) (bad_row s (bad_kind s))))) (Ok tt)) ≤ largest
      go true e = let z = bad_inside (ltb-true _ _ e) in omega (arith, z, h)
      go false e = omega (arith, h, f)

  filled_small : place s kind_count ≤ largest → (b : Bool) → eqb (place s kind_count) (length s) ≡ b → place_in (cond (not b) (Err Unfilled) (check_rows s)) ≤ largest
  filled_small h true e = rows_small h (eqb-true _ _ e)
  filled_small h false e = omega arith

  body_small : place_in (check_body s) ≤ largest
  unfolding count_place
  body_small = go (ltb (bad_count s) kind_count) refl
    where
      go : (b : Bool) → ltb (bad_count s) kind_count ≡ b →
          place_in (cond b (Err (Count (count_place (bad_count s)))) (cond (not (eqb (place s kind_count) (length s))) (Err Unfilled) (check_rows s))) ≤ largest
      go true e = let z : bad_count s < kind_count = ltb-true _ _ e in omega (arith, z)
      go false e = filled_small (end_fits s (ltb-false _ _ e)) (eqb (place s kind_count) (length s)) refl

  -- by the reader
  pub check_small : place_in (check s) ≤ largest
  unfolding check
  check_small = go (wrong_length s) (not (eqb (be 1 s 4) version)) (ltb (length s) 23)
    where
      go : (a b c : Bool) → place_in (cond a (Err Length) (cond b (Err Version) (cond c (Err Short) (check_body s)))) ≤ largest
      go true b c = omega arith
      go false true c = omega arith
      go false false true = omega arith
      go false false false = body_small

pub small : (counts rows buffer : List ℕ) → place_of (writing counts rows buffer).answer ≤ largest
unfolding writing
small counts rows buffer = go (eqb (length counts) count_bytes)
  where
    s : Image
    s = image_of counts rows

    room : (b : Bool) → length s ≤ largest → place_of (cond b (wrote (Err refusals.NoRoom) buffer) (wrote (Ok (length s)) (sets buffer 0 s))).answer ≤ largest
    room true h = omega arith
    room false h = h

    by : (c : Checked) → place_in s c ≤ largest → place_of (placed c s buffer).answer ≤ largest
    by (Ok u) h = room (ltb (length buffer) (length s)) h
    by (Err why) h = h

    go : (b : Bool) → place_of (cond b (placed (check_body s) s buffer) (wrote (Err (refusals.Image Short)) buffer)).answer ≤ largest
    go true = by (check_body s) (body_small s)
    go false = omega arith
