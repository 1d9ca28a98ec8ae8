-- `day_rescue::rescue_piece` meets its contract: from turn to turn. Assumes nothing.
use mathlib.Core.Path.{refl, sym, ◌∙◌}
use native.Mathlib.Omega.{arith}
use borrow.Author.Rules.{rules}
use Rattle.lists.specs.Tests.{flag_no, flag_yes}
use Rattle.byte_writer.proofs.WrittenLaws.{written_room, written_long}
use Rattle.day_rescue.proofs.PieceLaws.{room_there, last_inside, walked_none, walked_on}
use Rattle.day_rescue.proofs.PieceLaws.{walked_over, walked_out, walked_closed, over_end, piece_none, piece_last, piece_more}
use Rattle.std.proofs.lemmas.Bool.{not_from_false, not_from_true}
use Rattle.day_rescue.proofs.rescue_piece.Goals as goal

pub returns-then-not-roomy : goal.returns-then-not-roomy
returns-then-not-roomy c = piece_none _ _ _ _ _ c.roomy.ensures (flag_no refl (not_from_false _ c.if-not-roomy.true)) c.untouched.ensures

pub loop-at-init : goal.loop-at-init
loop-at-init c =
    let g = room_there _ c.args.pending _ _ (sym c.roomy.ensures ∙ flag_yes refl (not_from_true _ c.if-not-roomy.false)) in
    let i = last_inside c.args.last c.last_place-end.ensures in
    (g, i, walked_none _ _ i c.args.pending _ _ g)

pub skip-next-requires : goal.skip-next-requires
skip-next-requires c = (omega (arith, c.loop-at-test.true), c.loop-at.invariant.1)

pub overflow_sub-run : goal.overflow_sub-run
overflow_sub-run c = c.skip-next.ensures.passed.forward

pub overflow_add-run : goal.overflow_add-run
overflow_add-run c =
    let w = c.loop-at.invariant in
    let a = c.skip-next.ensures.passed.forward in
    let d = c.skip-next.ensures.inside in
    let h = w.2.places in
    let g = w.0.places in
    let i = w.1 in
    search rules

pub stretch-kept-requires : goal.stretch-kept-requires
stretch-kept-requires c = let w = c.loop-at.invariant in (omega (arith, c.skip-next.ensures.inside, w.1), w.1)

pub put_run-listed-requires : goal.put_run-listed-requires
put_run-listed-requires c = written_room c.loop-at.invariant.2.listing

pub slice_bounds-write_text-count : goal.slice_bounds-write_text-count
slice_bounds-write_text-count c = c.stretch-kept.ensures.stretched.forward

pub slice_bounds-write_text-start : goal.slice_bounds-write_text-start
slice_bounds-write_text-start c = c.stretch-kept.ensures.stretched.forward

pub slice_bounds-write_text-end : goal.slice_bounds-write_text-end
slice_bounds-write_text-end c = c.stretch-kept.ensures.stretched.inside

pub write_text-written-requires : goal.write_text-written-requires
write_text-written-requires c = written_room c.loop-at.invariant.2.output

pub overflow_add-records : goal.overflow_add-records
overflow_add-records c =
    let w = c.loop-at.invariant.2 in let f = c.skip-next.ensures.passed.forward in let t = c.stretch-kept.ensures.stretched in let a = w.records_few in let d = t.few in let g = t.inside in search rules

pub overflow_add-run-then-next-at : goal.overflow_add-run-then-next-at
overflow_add-run-then-next-at c =
    let w = c.loop-at.invariant in
    let f = c.skip-next.ensures.passed.forward in
    let t = c.stretch-kept.ensures.stretched in
    let a = w.2.places in
    let g = w.0.places in
    let d = t.inside in
    let l = t.forward in
    search rules

pub overflow_sub-run-then-next-at : goal.overflow_sub-run-then-next-at
overflow_sub-run-then-next-at c = c.stretch-kept.ensures.stretched.forward

pub overflow_add-run-then-next-at-2 : goal.overflow_add-run-then-next-at-2
overflow_add-run-then-next-at-2 c =
    let w = c.loop-at.invariant in
    let f = c.skip-next.ensures.passed.forward in
    let t = c.stretch-kept.ensures.stretched in
    let a = w.2.places in
    let g = w.0.places in
    let d = t.inside in
    let l = t.forward in
    search rules

pub loop-at-smaller-then-next-at : goal.loop-at-smaller-then-next-at
loop-at-smaller-then-next-at c =
    let f = c.skip-next.ensures.passed.forward in omega (arith, f, c.if-next-at.true, c.loop-at-test.true)

pub loop-at-preserved-then-next-at : goal.loop-at-preserved-then-next-at
loop-at-preserved-then-next-at c =
    let w = c.loop-at.invariant in
    (w.0, w.1, walked_on _ _ w.1 _ _ _ w.0 w.2 c.skip-next.ensures c.stretch-kept.ensures.stretched c.if-next-at.true c.put_run-listed.ensures c.write_text-written.ensures)

pub loop-at-smaller : goal.loop-at-smaller
loop-at-smaller c =
    let e = over_end c.skip-next.ensures c.stretch-kept.ensures.from_lt_end c.if-next-at.false in let f = c.stretch-kept.ensures.stretched.forward in omega (arith, e, f, c.loop-at-test.true)

pub loop-at-preserved : goal.loop-at-preserved
loop-at-preserved c =
    let w = c.loop-at.invariant in (w.0, w.1, walked_over _ _ w.1 _ _ _ w.0 w.2 c.skip-next.ensures c.stretch-kept.ensures.stretched c.if-next-at.false)

pub put_run-listed-requires-then-last : goal.put_run-listed-requires-then-last
put_run-listed-requires-then-last c = written_room c.loop-at.invariant.2.listing

pub overflow_add-run-then-last : goal.overflow_add-run-then-last
overflow_add-run-then-last c = let w = c.loop-at.invariant in let a = w.2.places in let g = w.0.places in let d = w.2.inside in search rules

pub shape_of-out-then-last : goal.shape_of-out-then-last
shape_of-out-then-last c = written_long c.loop-at.invariant.2.output

pub shape_of-list-then-last : goal.shape_of-list-then-last
shape_of-list-then-last c = written_long c.put_run-listed-then-last.ensures ∙ written_long c.loop-at.invariant.2.listing

pub returns-then-last : goal.returns-then-last
returns-then-last c =
    let w = c.loop-at.invariant in
    piece_last _ _ _ _ _ c.roomy.ensures (flag_yes refl (not_from_true _ c.if-not-roomy.false)) c.last_place-end.ensures c.if-last.true
    (walked_closed _ _ w.1 _ _ _ w.0 w.2 c.loop-at-test.false c.put_run-listed-then-last.ensures)

pub shape_of-out-else-last : goal.shape_of-out-else-last
shape_of-out-else-last c = written_long c.loop-at.invariant.2.output

pub shape_of-list-else-last : goal.shape_of-list-else-last
shape_of-list-else-last c = written_long c.loop-at.invariant.2.listing

pub returns-else-last : goal.returns-else-last
returns-else-last c =
    let w = c.loop-at.invariant in
    piece_more _ _ _ _ _ c.roomy.ensures (flag_yes refl (not_from_true _ c.if-not-roomy.false)) c.last_place-end.ensures c.if-last.false
    (walked_out _ _ w.1 _ _ _ w.0 w.2 c.loop-at-test.false)
