-- What the rescue for C tells, from what the rescue promises. Assumes nothing.
use Prim.Native.Nat.{ℕ, ◌+◌, ◌-◌, ◌*◌, ◌≤◌, min}
use mathlib.Core.Bool.{Bool, true, false, cond, ◌||◌}
use mathlib.Core.Path.{◌≡◌, refl, sym, ap, ◌∙◌}
use mathlib.Core.List.{List, [], ◌++◌, append-nil}
use native.Mathlib.Omega.{arith}
use lib.Dec.{ltb}
use lib.ListN.{length, take, drop, length-drop}
use lib.Seq.{drop-length}
use Rattle.table_rows.specs.Kinds.{largest}
use Rattle.byte_writer.specs.Written.{Written}
use Rattle.table.specs.Check as table
use Rattle.table.specs.Check.{check}
use Rattle.std.specs.Prelude.{Ok, Err}
use Rattle.table.specs.Check.{Checked}
use Rattle.table.specs.declared.ImageRefusal.{ImageRefusal}
use Rattle.table.specs.declared.ImageRefusal.TheVariants.{Length}
use Rattle.table_writer.proofs.SmallLaws.{place_in, check_small}
use Rattle.day_run.specs.Days.{image_end, image_in, opened}
use Rattle.day_run.proofs.WholeLaws.{rest_is}
use Rattle.day_rescue.specs.Rescue.{run, roomy, Answered, answered, Rescued, saved, saved_by}
use Rattle.day_rescue.specs.declared.Totals.{Totals}
use Rattle.day_rescue.specs.declared.RescueRefusal.TheVariants as refusals
use Rattle.exports.specs.Told.{no_room}
use Rattle.exports.specs.Answers.{half, report_head, head_of, rescue_by, rescue_bytes}

-- ---- the place of a refusal is small

place_at : Checked → ℕ
place_at (Ok u) = 0
place_at (Err why) = table.place_of why

opened_small : (day : List ℕ) → place_at (opened day) ≤ largest
unfolding opened place_at
opened_small day = go (ltb (length day) (image_end day) || ltb largest (image_end day)) (check (image_in day)) (check_small (image_in day))
  where
    go : (b : Bool) (c : Checked) → place_in (image_in day) c ≤ largest → place_at (cond b (Err Length) c) ≤ largest
    go true c h = omega arith
    go false (Ok u) h = omega arith
    go false (Err why) h = h

place_of : Rescued → ℕ
place_of (Ok t) = 0
place_of (Err (refusals.Image why)) = table.place_of why
place_of (Err refusals.NoRoom) = 0

saved_small : (day out list : List ℕ) → place_of (saved day out list).answer ≤ largest
unfolding saved place_of place_at
saved_small day out list = go (opened day) (opened_small day)
  where
    room : (b : Bool) (x y : Answered Rescued) → place_of x.answer ≡ 0 → place_of y.answer ≡ 0 → place_of (cond b x y).answer ≤ largest
    room true x y p q = omega (arith, p)
    room false x y p q = omega (arith, q)

    go : (c : Checked) → place_at c ≤ largest → place_of (saved_by c day out list).answer ≤ largest
    go (Ok u) h = room (roomy (length day) (run 0 0) (length out) (length list)) _ _ refl refl
    go (Err why) h = h

-- ---- what is told

module _ (day out report : List ℕ) {head : ℕ} (g : head ≡ min report_head (length report)) {a : Rescued} {after list : List ℕ}
    (q : answered a after list ≡ saved day out (take (length report - head) (drop head report))) where
  abbrev pub mid : List ℕ
  mid = take head report ++ (list ++ drop (length report - head) (drop head report))

  told_by : rescue_by a after mid ≡ rescue_bytes day out report
  unfolding rescue_bytes
  told_by =
      let d = length-drop head report in
      let none : drop (length report - head) (drop head report) ≡ [] = ap (λ k. drop k (drop head report)) (sym d) ∙ drop-length (drop head report) in
      let all : list ++ drop (length report - head) (drop head report) ≡ list = ap (list ++◌) none ∙ append-nil list in
      let s = q ∙ ap (saved day out) (rest_is report head) in
      ap (λ x. rescue_by a after (take head report ++ x)) all ∙
      (ap (λ x. rescue_by x.answer x.out (take head report ++ x.list)) s ∙
      ap (λ k. let r = saved day out (drop k report) in rescue_by r.answer r.out (take k report ++ r.list)) g)

  pub told_none : a ≡ Err refusals.NoRoom → answered (no_room * half) after mid ≡ rescue_bytes day out report
  told_none e = ap (λ x. rescue_by x after mid) (sym e) ∙ told_by

  module _ {why : ImageRefusal} (e : a ≡ Err (refusals.Image why)) where
    pub told_refused : {n p : ℕ} → n ≡ table.number_of why → p ≡ table.place_of why → answered (n * half + p) after mid ≡ rescue_bytes day out report
    told_refused m l = rw (m, l) (ap (λ x. rescue_by x after mid) (sym e) ∙ told_by)

    pub place_small : table.place_of why ≤ largest
    unfolding place_of
    place_small =
        let m = saved_small day out (take (length report - head) (drop head report)) in
        let p = ap (λ x. place_of x.answer) q in
        let z = ap place_of (sym e) in omega (arith, m, p, z)

  pub told_saved : {t : Totals} → a ≡ Ok t → {new : List ℕ} {end : ℕ} → Written mid 0 (head_of t) new end → answered 0 after new ≡ rescue_bytes day out report
  told_saved e w = ap (answered 0 after) w.all ∙ (ap (λ x. rescue_by x after mid) (sym e) ∙ told_by)
