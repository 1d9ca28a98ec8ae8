-- What the writer's room holds, and what is answered at each step. Assumes nothing.
use mathlib.Core.Path.{◌≡◌, sym, ap, ◌∙◌}
use mathlib.Core.Bool.{cond}
use mathlib.Core.List.{List, [], ◌∷◌, ◌++◌, append_assoc}
use Prim.Native.Nat.{ℕ, ◌+◌, ◌≤◌, ◌<◌}
use native.Mathlib.Nat.{zero-add}
use native.Mathlib.Omega.{arith}
use lib.ListN.{length, take, get_or, length-append, get_or-append}
use lib.Seq.{sets, sets-eq, take_at, length-take-le}
use borrow.Author.Tests.{lt-ltb, le-ltb, eq-eqb, ne_eqb}
use Rattle.lists.specs.Rows.{sets_low, sets_in}
use Rattle.table_rows.specs.Bytes.{Image, be_bytes}
use Rattle.table_rows.specs.Kinds.{kind_count, head_bytes, count_place, place, largest}
use Rattle.byte_writer.specs.Written.{Written}
use Rattle.byte_writer.proofs.NumberLaws.{number_length}
use Rattle.byte_writer.proofs.WrittenLaws.{sets_append, written_then, written_long}
use Rattle.table.specs.Check.{version, bad_count, check_rows}
use Rattle.table.specs.Check.{Checked}
use Rattle.std.specs.Prelude.{Ok, Err}
use Rattle.table.specs.declared.ImageRefusal.{ImageRefusal}
use Rattle.table.specs.declared.ImageRefusal.TheVariants.{Short, Count, Unfilled}
use Rattle.table_writer.specs.Writer.{image_of, count_bytes, wrote, placed, writing}
use Rattle.table_writer.specs.declared.WriteRefusal.TheVariants as refusals
use Rattle.table_writer.proofs.HeadLaws.{same_bad_count, same_end, end_fits}

-- ---- an image's bytes

-- what stands before the rows
abbrev pub head_of : List ℕ → List ℕ → List ℕ
head_of counts rows = be_bytes 4 (1 + length counts + length rows) ++ (version ∷ counts)

module _ (counts rows : List ℕ) where
  pub head_then : image_of counts rows ≡ head_of counts rows ++ rows
  unfolding image_of
  head_then = sym (append_assoc (be_bytes 4 (1 + length counts + length rows)) (version ∷ counts) rows)

  pub head_length : length (head_of counts rows) ≡ 5 + length counts
  head_length = rw (length-append, number_length 4 (1 + length counts + length rows)) (omega arith)

  pub image_length : length (image_of counts rows) ≡ 5 + length counts + length rows
  image_length = ap length head_then ∙ (length-append (head_of counts rows) rows ∙ ap (λ n. n + length rows) head_length)

  -- one piece behind the other
  pub image_written : {old a b c new : List ℕ} {i j k end : ℕ} → Written old 0 (be_bytes 4 (1 + length counts + length rows)) a i →
      Written a i (version ∷ []) b j → Written b j counts c k → Written c k rows new end → Written old 0 (image_of counts rows) new end
  unfolding image_of
  image_written wa wb wc wd = written_then wa (written_then wb (written_then wc wd))

-- ---- the room: the image, or as much of it as there is room for

module _ (counts rows : List ℕ) (nine : length counts ≡ count_bytes) {zeros room : List ℕ} {end : ℕ} (long : length zeros ≡ largest)
    (w : Written zeros 0 (image_of counts rows) room end) where
  abbrev S : Image
  S = image_of counts rows

  abbrev head : List ℕ
  head = head_of counts rows

  head_is : length head ≡ head_bytes
  head_is = head_length counts rows ∙ ap (λ n. 5 + n) nine

  pub room_length : length S ≡ head_bytes + length rows
  room_length = image_length counts rows ∙ ap (λ n. 5 + n + length rows) nine

  same : (i : ℕ) → i < head_bytes → get_or room i 0 ≡ get_or S i 0
  same i l =
      let k : i < length head = rw head_is l in
      let e : 0 + i ≡ i = omega arith in
      let f : sets zeros 0 S ≡ sets (sets zeros 0 head) (length head) rows = ap (sets zeros 0) (head_then counts rows) ∙ rw zero-add at (sets_append zeros 0 head rows) in
      ap (λ r. get_or r i 0) (w.all ∙ f) ∙
      (sets_low (sets zeros 0 head) (length head) rows i 0 k ∙
      (rw e at (sets_in zeros 0 head i 0 k (omega (arith, head_is, long))) ∙
      sym (ap (λ r. get_or r i 0) (head_then counts rows) ∙ get_or-append head rows 0 i k)))

  pub counts_are : bad_count room ≡ bad_count S
  counts_are = same_bad_count room S same

  pub end_is : place room kind_count ≡ place S kind_count
  end_is = same_end room S same

  module _ {k : ℕ} (e : k ≡ bad_count room) where
    pub refused_count : k < kind_count → {p : ℕ} → p ≡ count_place k → (buffer : List ℕ) → wrote (Err (refusals.Image (Count p))) buffer ≡ writing counts rows buffer
    unfolding writing
    refused_count l q buffer = sym (simp (eq-eqb _ _ nine, ← counts_are, ← e, lt-ltb _ _ l, ← q))

    module _ (l : kind_count ≤ k) {p : ℕ} (q : p ≡ place room kind_count) where
      -- the rows that the counts name end in the room
      room_for : p ≤ largest
      room_for = let m = end_fits S (rw (← counts_are, ← e) l) in omega (arith, q, end_is, m)

      pub in_room : p ≤ length room
      in_room = let m = room_for in let r = written_long w in omega (arith, long, m, r)

      pub taken_long : p ≡ length (take p room)
      taken_long = sym (length-take-le p room in_room)

      pub refused_unfilled : (p ≡ head_bytes + length rows → ⊥) → (buffer : List ℕ) → wrote (Err (refusals.Image Unfilled)) buffer ≡ writing counts rows buffer
      unfolding writing
      refused_unfilled n buffer =
          let h : place S kind_count ≡ length S → ⊥ = λ x. n (q ∙ (end_is ∙ (x ∙ room_length))) in
          sym (simp (eq-eqb _ _ nine, ← counts_are, ← e, le-ltb _ _ l, ne_eqb _ _ h))

      module _ (n : p ≡ head_bytes + length rows) where
        pub room_is : take p room ≡ S
        room_is =
            let i : 0 + length S ≤ length zeros = let m = room_for in omega (arith, room_length, long, n) in
            ap (take p) (w.all ∙ sets-eq S zeros 0 i) ∙ take_at S _ p (room_length ∙ sym n)

        filled : place S kind_count ≡ length S
        filled = sym end_is ∙ (sym q ∙ (n ∙ sym room_length))

        -- the rows' check decides
        by_rows : (buffer : List ℕ) → placed (check_rows S) S buffer ≡ writing counts rows buffer
        unfolding writing
        by_rows buffer = sym (simp (eq-eqb _ _ nine, ← counts_are, ← e, le-ltb _ _ l, eq-eqb _ _ filled))

        module _ {c : Checked} (f : c ≡ check_rows (take p room)) where
          rows_are : c ≡ check_rows S
          rows_are = f ∙ ap check_rows room_is

          pub refused_row : {why : ImageRefusal} → c ≡ Err why → (buffer : List ℕ) → wrote (Err (refusals.Image why)) buffer ≡ writing counts rows buffer
          refused_row g buffer = ap (λ x. placed x S buffer) (sym g ∙ rows_are) ∙ by_rows buffer

          pub no_room_lem : c ≡ Ok tt → (buffer : List ℕ) → length buffer < p → wrote (Err refusals.NoRoom) buffer ≡ writing counts rows buffer
          no_room_lem g buffer m =
              let z : length buffer < length S = omega (arith, n, room_length) in
              sym (ap (λ b. cond b (wrote (Err refusals.NoRoom) buffer) (wrote (Ok (length S)) (sets buffer 0 S))) (lt-ltb _ _ z)) ∙
              (ap (λ x. placed x S buffer) (sym g ∙ rows_are) ∙ by_rows buffer)

          pub all_written : c ≡ Ok tt → {buffer : List ℕ} → p ≤ length buffer → {new : List ℕ} {i : ℕ} → Written buffer 0 (take p room) new i →
              wrote (Ok p) new ≡ writing counts rows buffer
          all_written g {buffer} m v =
              let z : length S ≤ length buffer = omega (arith, n, room_length) in
              ap (λ r. wrote (Ok p) r) (v.all ∙ ap (sets buffer 0) room_is) ∙
              (ap (λ x. wrote (Ok x) (sets buffer 0 S)) (n ∙ sym room_length) ∙
              (sym (ap (λ b. cond b (wrote (Err refusals.NoRoom) buffer) (wrote (Ok (length S)) (sets buffer 0 S))) (le-ltb _ _ z)) ∙
              (ap (λ x. placed x S buffer) (sym g ∙ rows_are) ∙ by_rows buffer)))

pub not_nine : (counts rows buffer : List ℕ) → (length counts ≡ count_bytes → ⊥) → wrote (Err (refusals.Image Short)) buffer ≡ writing counts rows buffer
unfolding writing
not_nine counts rows buffer h = sym (simp (ne_eqb _ _ h))
