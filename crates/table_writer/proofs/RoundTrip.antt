-- Document 02, C-11: "Reading back what it wrote gives the same rows, and writing what was read from an accepted image gives the same bytes." And
-- every image that it writes is accepted. Assumes nothing.
use mathlib.Core.Path.{◌≡◌, refl, sym, ap, ◌∙◌}
use mathlib.Core.Bool.{Bool, true, false, cond, not}
use mathlib.Core.List.{List, [], ◌∷◌, ◌++◌, append_assoc}
use Prim.Native.Nat.{ℕ, ◌+◌, ◌*◌, ◌-◌, ◌≤◌, ◌<◌}
use native.Mathlib.Nat.{zero-add}
use native.Mathlib.Omega.{arith}
use lib.Dec.{ltb, eqb}
use lib.ListN.{length, take, drop, get_or, length-append, length-drop, take-append-drop}
use lib.Seq.{sets, sets-eq, take_at, drop_at, drop-drop, drop-cons, length-take-le}
use borrow.Author.Tests.{le-ltb, ltb-false, eq-eqb, eqb-true, not-false}
use Rattle.lists.specs.Changes.{or_no_right}
use Rattle.table_rows.specs.Bytes.{Image, be, be_bytes}
use Rattle.table_rows.specs.Kinds.{kind_count, head_bytes, count, count_place, place, largest}
use Rattle.table_rows.specs.Rows.{row_place, field}
use Rattle.byte_writer.proofs.NumberLaws.{number_length, number_read, read_behind, read_among, read_number}
use Rattle.table.specs.Check.{version, wrong_length, bad_count, check_body, check}
use Rattle.table.specs.Table.{Table}
use Rattle.table.specs.Check.{Checked}
use Rattle.std.specs.Prelude.{Ok, Err}
use Rattle.table.specs.declared.ImageRefusal.TheVariants.{Length, Version, Short, Count, Unfilled}
use Rattle.table.proofs.TableLaws.{table_of, passed}
use Rattle.table_writer.specs.Writer.{image_of, count_bytes, wrote, placed, writing, place_of}
use Rattle.table_writer.specs.Writer.{Wrote}
use Rattle.table_writer.specs.declared.WriteRefusal.{WriteRefusal}
use Rattle.table_writer.specs.declared.WriteRefusal.TheVariants as refusals
use Rattle.table_writer.proofs.HeadLaws.{end_fits}
use Rattle.table_writer.proofs.WriterLaws.{head_of, head_then, head_length, image_length}

-- the counts and the rows of an image
abbrev pub counts_of : Image → List ℕ
counts_of s = take count_bytes (drop 5 s)

abbrev pub rows_of : Image → List ℕ
rows_of s = drop head_bytes s

-- ---- what an image of counts and rows has

module _ (counts rows : List ℕ) (nine : length counts ≡ count_bytes) where
  abbrev S : Image
  S = image_of counts rows

  long : length S ≡ head_bytes + length rows
  long = image_length counts rows ∙ ap (λ n. 5 + n + length rows) nine

  -- the head, and the rows behind it
  pub rows_back : rows_of S ≡ rows
  rows_back = ap (drop head_bytes) (head_then counts rows) ∙ drop_at (head_of counts rows) rows head_bytes (head_length counts rows ∙ ap (λ n. 5 + n) nine)

  abbrev first : List ℕ
  first = be_bytes 4 (1 + length counts + length rows) ++ (version ∷ [])

  first_long : length first ≡ 5
  first_long = rw (length-append, number_length 4 (1 + length counts + length rows)) (omega arith)

  split : S ≡ first ++ (counts ++ rows)
  unfolding image_of
  split = sym (append_assoc (be_bytes 4 (1 + length counts + length rows)) (version ∷ []) (counts ++ rows))

  pub counts_back : counts_of S ≡ counts
  counts_back = ap (λ x. take count_bytes (drop 5 x)) split ∙ (ap (take count_bytes) (drop_at first (counts ++ rows) 5 first_long) ∙ take_at counts rows count_bytes nine)

  -- each count
  pub count_back : (k : ℕ) → k < kind_count → count S k ≡ be 2 counts (2 * k)
  unfolding count count_place
  count_back k l =
      let e : 5 + 2 * k ≡ length first + 2 * k = omega (arith, first_long) in
      ap (λ x. be 2 x (5 + 2 * k)) split ∙ (ap (be 2 (first ++ (counts ++ rows))) e ∙
      (read_behind first (counts ++ rows) 2 (2 * k) ∙ read_among counts rows 2 (2 * k) (omega (arith, nine, l))))

  -- and each field of each row of each kind: its bytes are those of the rows given
  pub field_back : (w k i off p : ℕ) → row_place S k i + off ≡ head_bytes + p → field w S k i off ≡ be w rows p
  unfolding field
  field_back w k i off p e =
      let h : length (head_of counts rows) ≡ head_bytes = head_length counts rows ∙ ap (λ n. 5 + n) nine in
      ap (be w S) e ∙ (ap (λ x. be w x (head_bytes + p)) (head_then counts rows) ∙
      (ap (λ n. be w (head_of counts rows ++ rows) (n + p)) (sym h) ∙ read_behind (head_of counts rows) rows w p))

  -- its length and its version are right
  right_length : length S ≤ largest → wrong_length S ≡ false
  unfolding wrong_length image_of
  right_length h =
      let a : 5 ≤ length S = omega (arith, long) in
      let b : be 4 S 0 ≡ 1 + length counts + length rows = number_read 4 (1 + length counts + length rows) _ (omega (arith, long, nine, h)) in
      let c : be 4 S 0 + 4 ≡ length S = omega (arith, b, long, nine) in
      simp (le-ltb _ _ a, eq-eqb _ _ c)

  right_version : be 1 S 4 ≡ version
  unfolding image_of be
  right_version =
      let e : 4 ≡ length (be_bytes 4 (1 + length counts + length rows)) + 0 = rw number_length (omega arith) in
      ap (be 1 S) e ∙ read_behind (be_bytes 4 (1 + length counts + length rows)) (version ∷ (counts ++ rows)) 1 0

  -- so the reader answers what the writer asked
  pub reader_agrees : length S ≤ largest → check S ≡ check_body S
  unfolding check
  reader_agrees h =
      let a : head_bytes ≤ length S = omega (arith, long) in
      simp (right_length h, eq-eqb _ _ right_version, le-ltb _ _ a)

-- ---- what was written

-- an image at the front of the buffer: which, and that the reader accepts it; the bytes behind it are as they were
pub record WroteIt (counts rows buffer : List ℕ) (n : ℕ) (new : List ℕ) : Type 0 where
  pub nine : length counts ≡ count_bytes
  pub image : take n new ≡ image_of counts rows
  pub accepted : check (take n new) ≡ Ok tt
  pub behind : drop n new ≡ drop n buffer

no_image : {P : Type 0} (r : WriteRefusal) (b : List ℕ) {n : ℕ} {new : List ℕ} → wrote (Err r) b ≡ wrote (Ok n) new → P
no_image r b {n} e = let z : ◌≡◌ {A = Wrote} (Err r) (Ok n) = ap (λ x. x.answer) e in cc

-- checked rows whose image was placed
module _ {P : Type 0} (s : Image) (buffer : List ℕ) {n : ℕ} {new : List ℕ} where
  at_front : (b : Bool) → cond b (wrote (Err refusals.NoRoom) buffer) (wrote (Ok (length s)) (sets buffer 0 s)) ≡ wrote (Ok n) new →
      (b ≡ false → n ≡ length s → new ≡ sets buffer 0 s → P) → P
  at_front true e k = no_image refusals.NoRoom buffer e
  at_front false e k = k refl (sym (ap (λ x. place_of x.answer) e)) (sym (ap (λ x. x.buffer) e))

  was_placed : (c : Checked) → placed c s buffer ≡ wrote (Ok n) new → (c ≡ Ok tt → length s ≤ length buffer → n ≡ length s → new ≡ sets buffer 0 s → P) → P
  was_placed (Ok u) e k = at_front (ltb (length buffer) (length s)) e λ h. k refl (ltb-false _ _ h)
  was_placed (Err why) e k = no_image (refusals.Image why) buffer e

-- accepted rows end where the image does, and it is no larger than the largest
body_fits : (s : Image) → check_body s ≡ Ok tt → length s ≤ largest
body_fits s e =
    passed (ltb (bad_count s) kind_count) (Count (count_place (bad_count s))) _ e λ a e.
    passed (not (eqb (place s kind_count) (length s))) Unfilled _ e λ b e.
    let f : place s kind_count ≤ largest = end_fits s (ltb-false _ _ a) in
    let g : place s kind_count ≡ length s = eqb-true _ _ (not-false _ b) in
    omega (arith, f, g)

-- "Reading back what it wrote gives the same rows": the image is that of the counts and rows given, and is accepted
module _ (counts rows buffer : List ℕ) {n : ℕ} {new : List ℕ} where
  by_counts : (b : Bool) → eqb (length counts) count_bytes ≡ b →
      cond b (placed (check_body (image_of counts rows)) (image_of counts rows) buffer) (wrote (Err (refusals.Image Short)) buffer) ≡ wrote (Ok n) new →
      WroteIt counts rows buffer n new
  by_counts false t e = no_image (refusals.Image Short) buffer e
  by_counts true t e = was_placed (image_of counts rows) buffer (check_body (image_of counts rows)) e λ c l m o.
      let s = image_of counts rows in
      let h : length counts ≡ count_bytes = eqb-true _ _ t in
      let z : sets buffer 0 s ≡ s ++ drop (length s) buffer = rw zero-add at (sets-eq s buffer 0 (rw zero-add l)) in
      let front : take n new ≡ s = ap (take n) (o ∙ z) ∙ take_at s (drop (length s) buffer) n (sym m) in
      record {
        nine = h;
        image = front;
        accepted = ap check front ∙ (reader_agrees counts rows h (body_fits s c) ∙ c);
        behind = ap (drop n) (o ∙ z) ∙ (drop_at s (drop (length s) buffer) n (sym m) ∙ ap (λ x. drop x buffer) (sym m));
      }

  pub wrote_it : writing counts rows buffer ≡ wrote (Ok n) new → WroteIt counts rows buffer n new
  unfolding writing
  wrote_it e = by_counts (eqb (length counts) count_bytes) refl e

  pub reads_counts : writing counts rows buffer ≡ wrote (Ok n) new → counts_of (take n new) ≡ counts
  reads_counts e = let w = wrote_it e in ap counts_of w.image ∙ counts_back counts rows w.nine

  pub reads_rows : writing counts rows buffer ≡ wrote (Ok n) new → rows_of (take n new) ≡ rows
  reads_rows e = let w = wrote_it e in ap rows_of w.image ∙ rows_back counts rows w.nine

  -- each field of each row of each kind, at its place among the rows given
  pub reads_field : writing counts rows buffer ≡ wrote (Ok n) new → (w k i off p : ℕ) → row_place (take n new) k i + off ≡ head_bytes + p →
      field w (take n new) k i off ≡ be w rows p
  reads_field e w k i off p h =
      let x = wrote_it e in
      ap (λ s. field w s k i off) x.image ∙ field_back counts rows x.nine w k i off p (ap (λ s. row_place s k i + off) (sym x.image) ∙ h)

-- ---- "writing what was read from an accepted image gives the same bytes"

module _ (s : Image) (bytes : (i : ℕ) → get_or s i 0 < 256) (e : check s ≡ Ok tt) where
  t : Table s
  t = table_of s e

  length_is : be 4 s 0 + 4 ≡ length s
  unfolding check wrong_length
  length_is = passed (wrong_length s) Length _ e λ a e. eqb-true _ _ (not-false _ (or_no_right (ltb (length s) 5) _ a))

  body_is : check_body s ≡ Ok tt
  unfolding check
  body_is =
      passed (wrong_length s) Length _ e λ a e.
      passed (not (eqb (be 1 s 4) version)) Version _ e λ b e.
      passed (ltb (length s) head_bytes) Short _ e λ c e. e

  counts_long : length (counts_of s) ≡ count_bytes
  counts_long = let d = length-drop 5 s in length-take-le count_bytes (drop 5 s) (omega (arith, d, t.long))

  rows_long : length (rows_of s) ≡ length s - head_bytes
  rows_long = length-drop head_bytes s

  version_is : get_or s 4 0 ≡ version
  unfolding be
  version_is = omega (arith, t.versioned)

  pub same_image : image_of (counts_of s) (rows_of s) ≡ s
  unfolding image_of
  same_image =
      let n : 1 + length (counts_of s) + length (rows_of s) ≡ be 4 s 0 = omega (arith, counts_long, rows_long, length_is, t.long) in
      let a : be_bytes 4 (1 + length (counts_of s) + length (rows_of s)) ≡ take 4 s = ap (be_bytes 4) n ∙ read_number s 4 0 bytes (omega (arith, t.long)) in
      let b : counts_of s ++ rows_of s ≡ drop 5 s = ap (λ x. counts_of s ++ x) (sym (drop-drop count_bytes 5 s)) ∙ take-append-drop count_bytes (drop 5 s) in
      let c : drop 4 s ≡ version ∷ drop 5 s = drop-cons s 4 0 (omega (arith, t.long)) ∙ ap (λ x. x ∷ drop 5 s) version_is in
      ap (λ x. x ++ (version ∷ (counts_of s ++ rows_of s))) a ∙
      (ap (λ x. take 4 s ++ (version ∷ x)) b ∙ (ap (λ x. take 4 s ++ x) (sym c) ∙ take-append-drop 4 s))

  pub writes_same : (buffer : List ℕ) → length s ≤ length buffer → writing (counts_of s) (rows_of s) buffer ≡ wrote (Ok (length s)) (sets buffer 0 s)
  unfolding writing
  writes_same buffer h =
      let z : check_body (image_of (counts_of s) (rows_of s)) ≡ Ok tt = ap check_body same_image ∙ body_is in
      ap (λ b. cond b (placed (check_body (image_of (counts_of s) (rows_of s))) (image_of (counts_of s) (rows_of s)) buffer) (wrote (Err (refusals.Image Short)) buffer)) (eq-eqb _ _ counts_long) ∙
      (ap (λ c. placed c (image_of (counts_of s) (rows_of s)) buffer) z ∙ (ap (λ x. placed (Ok tt) x buffer) same_image ∙
      ap (λ b. cond b (wrote (Err refusals.NoRoom) buffer) (wrote (Ok (length s)) (sets buffer 0 s))) (le-ltb _ _ h)))
