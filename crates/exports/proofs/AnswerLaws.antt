-- What is told of a table's check, of a table written and of a day's state. Assumes nothing.
use mathlib.Core.Path.{◌≡◌, ap, ◌∙◌, sym}
use mathlib.Core.List.{List}
use Prim.Native.Nat.{ℕ, ◌+◌, ◌*◌, ◌≤◌, ◌<◌}
use lib.ListN.{length, take, drop}
use Rattle.table_rows.specs.Kinds.{largest}
use Rattle.table.specs.Check.{number_of}
use Rattle.std.specs.Prelude.{Ok, Err}
use Rattle.table.specs.Check.{Checked}
use Rattle.table.specs.declared.ImageRefusal.{ImageRefusal}
use Rattle.byte_writer.specs.Written.{Written}
use Rattle.day_run.specs.Days.{image_end, opened}
use Rattle.state_room.specs.Holds.{Rows, state_in}
use Rattle.table_writer.specs.Writer as writer
use Rattle.table_writer.specs.Writer.{wrote, writing, place_of}
use Rattle.table_writer.specs.Writer.{Wrote}
use Rattle.table_writer.proofs.SmallLaws.{small}
use Rattle.exports.proofs.ToldLaws.{no_room_lem, in_room}
use Rattle.table_rows.specs.Bytes.{be_bytes}
use Rattle.exports.specs.Told.{told, no_room, front}
use Rattle.exports.specs.State.{state_bytes, state_length, after_all, state_by, state_told}
use Rattle.exports.specs.Answers.{check_number, check_place, check_told, half, write_told}

pub short_place : (place : List ℕ) (c : Checked) → length place < 8 → told no_room place ≡ check_told c place
unfolding check_told
short_place place c h = no_room_lem 8 place _ h

pub check_told_lem : {place : List ℕ} → 8 ≤ length place → {c k : Checked} → c ≡ k → {at : ℕ} → at ≡ check_place c → {n : ℕ} → n ≡ check_number c →
    {new : List ℕ} {end : ℕ} → Written place 0 (be_bytes 8 at) new end → told n new ≡ check_told k place
unfolding check_told
check_told_lem {place} room {c} e {at} p {n} q {new} w =
    in_room 8 place _ room
    (ap (λ x. told x new) q ∙ (ap (told (check_number c)) (w.all ∙ ap (λ x. front place (be_bytes 8 x)) p) ∙
    ap (λ x. told (check_number x) (front place (be_bytes 8 (check_place x)))) e))

pub short_state : (day state : List ℕ) → length state < state_length → told no_room state ≡ state_told day state
unfolding state_told
short_state day state h = no_room_lem state_length state _ h

module _ (day : List ℕ) {state : List ℕ} (room : state_length ≤ length state) {c : Checked} (e : c ≡ opened day) where
  pub image_refused : {r : ImageRefusal} → c ≡ Err r → {n : ℕ} → n ≡ number_of r → told n state ≡ state_told day state
  unfolding state_told
  image_refused q m = in_room state_length state _ room (ap (λ n. told n state) m ∙ ap (λ x. state_by x day state) (sym q ∙ e))

  pub all_told : c ≡ Ok tt → {end : ℕ} → end ≡ image_end day → {records : List ℕ} → records ≡ drop end day →
      (d : Rows) → state_in (take end day) d ≡ after_all (take end day) records →
      {new : List ℕ} {at : ℕ} → Written state 0 (state_bytes (take end day) (state_in (take end day) d)) new at → told 0 new ≡ state_told day state
  unfolding state_told
  all_told q {end} i {records} s d v w =
      in_room state_length state _ room
      (ap (told 0)
      (w.all ∙
      (ap (λ x. front state (state_bytes (take end day) x)) (v ∙ ap (after_all (take end day)) s) ∙
      ap (λ m. front state (state_bytes (take m day) (after_all (take m day) (drop m day)))) i)) ∙
      ap (λ x. state_by x day state) (sym q ∙ e))

-- ---- the table writer

module _ (counts rows buffer : List ℕ) {new : List ℕ} {a : Wrote} (e : wrote a new ≡ writing counts rows buffer) where
  -- its place lies in the low half
  pub write_small : place_of a ≤ largest
  write_small = rw (ap (λ w. place_of w.answer) e) (small counts rows buffer)

  pub write_told_lem : {n p : ℕ} → n ≡ writer.number_of a → p ≡ place_of a → told (n * half + p) new ≡ write_told (writing counts rows buffer)
  unfolding write_told
  write_told_lem {p = p} f g = ap (λ x. told (x * half + p) new) f ∙ (ap (λ x. told (writer.number_of a * half + x) new) g ∙ ap write_told e)
