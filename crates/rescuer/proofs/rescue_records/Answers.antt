-- `rescue_records` is safe: what is read, written and listed lies within the buffers.
use Rattle.std.proofs.Common.{ℕ, ◌+◌, ◌-◌, ◌≤◌, List, length, take, sym, arith, length-take, length-take-le}
use Rattle.day_rescue.proofs.BoundLaws.{piece_bounds}
use Rattle.rescuer.proofs.rescue_records.Goals as goal

-- so many bytes of a part end where the part does, or before
part_end : (l : List ℕ) (from total n : ℕ) → from ≤ total → n ≤ length (take (total - from) l) → from + n ≤ total
part_end l from total n h k = let t = length-take (total - from) l in omega (arith, h, k, t)

pub slice_bounds-kept-end : goal.slice_bounds-kept-end
slice_bounds-kept-end g c = (piece_bounds _ _ _ _ _ c.rescue_piece-piece.ensures).written

pub slice_bounds-write_all-end : goal.slice_bounds-write_all-end
slice_bounds-write_all-end g c = sym (length-take-le _ _ (piece_bounds _ _ _ _ _ c.rescue_piece-piece.ensures).written)

pub slice_bounds-list-end : goal.slice_bounds-list-end
slice_bounds-list-end g c = (piece_bounds _ _ _ _ _ c.rescue_piece-piece.ensures).listed

pub slice_bounds-say_runs-end : goal.slice_bounds-say_runs-end
slice_bounds-say_runs-end g c = sym (length-take-le _ _ (piece_bounds _ _ _ _ _ c.rescue_piece-piece.ensures).listed)

pub overflow_add-from : goal.overflow_add-from
overflow_add-from g c =
    let h = c.loop.invariant in
    let e = part_end _ _ _ c.rescue_piece-piece.result.used h.0 (piece_bounds _ _ _ _ _ c.rescue_piece-piece.ensures).inside in
    omega (arith, e, h.1)

pub shift-left-requires : goal.shift-left-requires
shift-left-requires g c =
    let h = c.loop.invariant in
    (part_end _ _ _ c.rescue_piece-piece.result.used h.0 (piece_bounds _ _ _ _ _ c.rescue_piece-piece.ensures).inside, omega (arith, h.1))
