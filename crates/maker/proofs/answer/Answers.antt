-- The image lies within the buffer that it was written to.
use Rattle.std.proofs.Common.{◌≡◌, ℕ, ◌≤◌, List, length, Bool, true, false, cond, ltb, refl, sym, ap, ◌∙◌, arith, length-take-le}
use lib.Seq.{sets, length-sets}
use borrow.Author.Tests.{ltb-false}
use Rattle.std.specs.Prelude.{Ok, Err}
use Rattle.table.specs.Check.{Checked}
use Rattle.table.specs.declared.ImageRefusal.TheVariants.{Short}
use Rattle.table_writer.specs.declared.WriteRefusal.TheVariants as refusals
use Rattle.table_writer.specs.Writer.{wrote, writing, placed}
use Rattle.maker.proofs.answer.Goals as goal

room_fits : (small : Bool) (s old new : List ℕ) (n : ℕ) → small ≡ ltb (length old) (length s)
    → wrote (Ok n) new ≡ cond small (wrote (Err refusals.NoRoom) old) (wrote (Ok (length s)) (sets old 0 s)) → n ≤ length new
room_fits true s old new n h e = let a = ap (λ w. w.answer) e in cc
room_fits false s old new n h e =
    let a = ap (λ w. w.answer) e in
    let same : n ≡ length s = cc in
    let long : length new ≡ length old = ap (λ w. length w.buffer) e ∙ length-sets old 0 s in
    omega (arith, same, long, ltb-false _ _ (sym h))

image_fits : (nine : Bool) (checked : Checked) (s old new : List ℕ) (n : ℕ) → wrote (Ok n) new ≡ cond nine (placed checked s old) (wrote (Err (refusals.Image Short)) old) → n ≤ length new
image_fits false checked s old new n e = let a = ap (λ w. w.answer) e in cc
image_fits true (Err why) s old new n e = let a = ap (λ w. w.answer) e in cc
image_fits true (Ok u) s old new n e = room_fits _ s old new n refl e

wrote_fits : (counts rows old new : List ℕ) (n : ℕ) → wrote (Ok n) new ≡ writing counts rows old → n ≤ length new
unfolding writing
wrote_fits counts rows old new n e = image_fits _ _ _ old new n e

pub slice_bounds-image-end : goal.slice_bounds-image-end
slice_bounds-image-end g c = wrote_fits _ _ _ _ _ c.in-Ok.ensures

pub slice_bounds-say-end : goal.slice_bounds-say-end
slice_bounds-say-end g c = sym (length-take-le _ _ (wrote_fits _ _ _ _ _ c.in-Ok.ensures))
