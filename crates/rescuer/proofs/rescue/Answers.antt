-- `rescue` is safe: the image of a day that is accepted ends among its bytes.
use Rattle.std.proofs.Common.{◌≡◌, ℕ, ◌≤◌, List, length, take, sym, arith, length-take, length-take-le}
use Rattle.std.specs.Prelude.{Ok}
use Rattle.day_run.specs.Days.{image_end, opened}
use Rattle.day_run.proofs.WholeLaws.{open_fits}
use Rattle.rescuer.proofs.rescue.Goals as goal

-- the image of the first bytes ends among them
image_inside : (l : List ℕ) (total end : ℕ) → end ≡ image_end (take total l) → opened (take total l) ≡ Ok tt → end ≤ total
image_inside l total end e t = let f = open_fits (take total l) t in let g = length-take total l in omega (arith, e, f, g)

pub slice_bounds-write_all-end : goal.slice_bounds-write_all-end
slice_bounds-write_all-end g c =
    let f = open_fits _ (sym c.in_ok-open.ensures) in
    sym (length-take-le _ _ (omega (arith, f, c.image_end-end.ensures)))

pub rescue_records-requires : goal.rescue_records-requires
rescue_records-requires g c =
    (image_inside _ _ _ c.image_end-end.ensures (sym c.in_ok-open.ensures), omega (arith, c.in_ok-total.ensures))
