-- A whole day: its image, and behind it all records as one piece. Assumes nothing.
use Prim.Native.Nat.{ℕ, ◌+◌, ◌-◌, ◌≤◌}
use mathlib.Core.Bool.{Bool, true, false}
use mathlib.Core.Path.{◌≡◌, sym, ap, ◌∙◌}
use mathlib.Core.List.{List, [], ◌++◌, append-nil}
use native.Mathlib.Nat.{zero-add}
use native.Mathlib.Omega.{arith}
use lib.ListN.{length, take, drop, length-drop, length-append}
use lib.Seq.{sets, drop-length, length-take-le}
use borrow.Author.Tests.{le-leb}
use Rattle.table.specs.Check.{Checked}
use Rattle.std.specs.Prelude.{Ok, Err}
use Rattle.table.specs.declared.ImageRefusal.{ImageRefusal}
use Rattle.day_run.specs.Days.{image_end, opened}
use Rattle.day_run.proofs.WholeLaws.{rest_is, sets_behind, open_fits}
use Rattle.byte_writer.specs.Written.{Written}
use Rattle.byte_writer.proofs.WrittenLaws.{sets_append, written_long}
use Rattle.day_rescue.specs.declared.Run.{Run}
use Rattle.day_rescue.specs.declared.Piece.{Piece}
use Rattle.day_rescue.specs.declared.RescueRefusal.TheVariants.{Image, NoRoom}
use Rattle.day_rescue.specs.Rescue.{run, past, before, rescue_from, day_rescue, list_room, most_place, roomy, answered, told, piecing, saved, saved_by, rescue_by}
use Rattle.day_rescue.proofs.PieceLaws.{Room, room_there}
use Rattle.day_rescue.proofs.BoundLaws.{walk_within}

roomy_yes : (n : ℕ) (r : Run) (out list : ℕ) → n ≤ out → list_room n ≤ list → past r + n ≤ most_place → roomy n r out list ≡ true
unfolding roomy
roomy_yes n r out list a b c = rw (le-leb n out a, le-leb (list_room n) list b, le-leb (past r + n) most_place c)

-- the image is accepted, and there is room for the whole day
pub record Begun (day out list : List ℕ) : Type 0 where
  pub accepted : opened day ≡ Ok tt
  pub room : roomy (length day) (run 0 0) (length out) (length list) ≡ true

saved_is : (day out list : List ℕ) → opened day ≡ Ok tt → saved_by (Ok tt) day out list ≡ saved day out list
unfolding saved
saved_is day out list e = ap (λ c. saved_by c day out list) (sym e)

-- by the tests that the code makes
module _ (day out list : List ℕ) {checked : Checked} (o : checked ≡ opened day) where
  pub saved_refused : {why : ImageRefusal} → checked ≡ Err why → answered (Err (Image why)) out list ≡ saved day out list
  unfolding saved
  saved_refused e = sym (ap (λ c. saved_by c day out list) (sym o ∙ e))

  module _ (e : checked ≡ Ok tt) {b : Bool} (t : b ≡ roomy (length day) (run 0 0) (length out) (length list)) where
    pub saved_no_room : b ≡ false → answered (Err NoRoom) out list ≡ saved day out list
    saved_no_room h = rw (sym t ∙ h) at (saved_is day out list (sym o ∙ e))

    pub begun : b ≡ true → Begun day out list
    begun h = record { accepted = sym o ∙ e; room = sym t ∙ h }

module _ {day out list : List ℕ} (s : Begun day out list) {end : ℕ} (g : end ≡ image_end day) where
  room : Room day (run 0 0) out list
  room = room_there day (run 0 0) out list s.room

  pub end_inside : end ≤ length day
  end_inside = rw g (open_fits day s.accepted)

  module _ {mid : List ℕ} {m : ℕ} (w : Written out 0 (take end day) mid m) where
    pub end_output : end ≤ length mid
    end_output = let l = written_long w in let f = end_inside in let r = room.output in omega (arith, l, f, r)

    -- the records as a piece
    module _ {p : Piece} {new after : List ℕ} (q : answered p new after ≡ piecing (take (length day - end) (drop end day)) true (run end 0) (take (length mid - end) (drop end mid)) list) where
      as_piece : answered p new after ≡ told (rescue_from end (drop end day)) (drop end mid) list
      unfolding piecing rescue_from
      as_piece =
          let f = end_inside in
          let i = end_output in
          let r = room in
          let l = written_long w in
          let d = length-drop end day in
          let c = length-drop end mid in
          let t : roomy (length (drop end day)) (run end 0) (length (drop end mid)) (length list) ≡ true =
          roomy_yes _ (run end 0) _ _ (omega (arith, d, c, f, i, l, r.output)) (omega (arith, d, r.listing)) (omega (arith, d, f, r.places)) in
          q ∙ (ap (λ x. piecing x true (run end 0) (take (length mid - end) (drop end mid)) list) (rest_is day end) ∙
          (ap (λ x. piecing (drop end day) true (run end 0) x list) (rest_is mid end) ∙ rw t))

      pub written_few : end + p.written ≤ most_place
      unfolding rescue_from
      written_few =
          let f = end_inside in
          let d = length-drop end day in
          let a = ap (λ x. x.answer.written) as_piece in
          let k = walk_within (drop end day) (length (drop end day)) (omega arith) 0 (run end 0) (omega arith) in
          omega (arith, f, d, a, k.kept, k.inside, room.places)

      pub saved_all :
          answered (Ok (record { written = end + p.written; listed = p.listed; records = p.records }))
          (take end mid ++ (new ++ drop (length mid - end) (drop end mid))) after ≡ saved day out list
      unfolding day_rescue
      saved_all =
          let f = end_inside in
          let R = rescue_from end (drop end day) in
          let D = before (take end day) 0 [] R in
          let c = length-drop end mid in
          let none : drop (length mid - end) (drop end mid) ≡ [] = ap (λ j. drop j (drop end mid)) (sym c) ∙ drop-length (drop end mid) in
          let all : new ++ drop (length mid - end) (drop end mid) ≡ sets (drop end mid) 0 R.kept =
          ap (new ++◌) none ∙ (append-nil new ∙ ap (λ x. x.out) as_piece) in
          let long : length (take end day) ≡ end = length-take-le end day f in
          let whole : sets out 0 (take end day ++ R.kept) ≡ take end mid ++ sets (drop end mid) 0 R.kept =
          sets_append out 0 (take end day) R.kept ∙ (ap (λ x. sets x (0 + length (take end day)) R.kept) (sym w.all) ∙
          (ap (λ k. sets mid k R.kept) (zero-add _ ∙ long) ∙ sets_behind mid end R.kept end_output)) in
          let bytes : end + p.written ≡ length (take end day ++ R.kept) =
          sym (length-append (take end day) R.kept ∙ (ap (λ k. k + length R.kept) long ∙ ap (λ x. end + x.answer.written) (sym as_piece))) in
          let is : day_rescue day ≡ D = ap (λ k. rescue_by k day) s.accepted ∙ ap (λ k. before (take k day) 0 [] (rescue_from k (drop k day))) (sym g) in
          rw (bytes, ap (λ x. x.answer.listed) as_piece, ap (λ x. x.answer.records) as_piece, ap (λ x. x.list) as_piece, all, ← whole, ← zero-add R.records)
          (rw (s.room, is) at (saved_is day out list s.accepted))
