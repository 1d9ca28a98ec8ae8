-- `day_rescue::rescue` meets its contract: the image, and behind it all records as one piece. Assumes nothing.
use mathlib.Core.Path.{refl, sym}
use lib.Seq.{length-take-le}
use Rattle.lists.specs.Tests.{flag_no, flag_yes}
use Rattle.day_rescue.proofs.WholeLaws.{begun, saved_refused, saved_no_room, end_inside, end_output, written_few, saved_all}
use borrow.Author.Rules.{rules}
use Rattle.std.proofs.lemmas.Result.{err_from_is_err_and}
use Rattle.std.proofs.lemmas.Bool.{not_from_false, not_from_true}
use Rattle.day_rescue.proofs.rescue.Goals as goal

pub returns-then-not-roomy : goal.returns-then-not-roomy
returns-then-not-roomy c =
    let a = c.args in
    saved_no_room a.day.now a.out.now a.list.now c.«open».ensures c.in_ok-open.was c.roomy.ensures (flag_no refl (not_from_false _ c.if-not-roomy.true))

pub slice_bounds-write_text-end : goal.slice_bounds-write_text-end
slice_bounds-write_text-end c =
    let a = c.args in
    let s = begun a.day.now a.out.now a.list.now c.«open».ensures c.in_ok-open.was c.roomy.ensures (flag_yes refl (not_from_true _ c.if-not-roomy.false)) in
    sym (length-take-le _ _ (end_inside s c.image_end-end.ensures))

pub slice_bounds-rescue_piece-count : goal.slice_bounds-rescue_piece-count
slice_bounds-rescue_piece-count c =
    let a = c.args in
    let s = begun a.day.now a.out.now a.list.now c.«open».ensures c.in_ok-open.was c.roomy.ensures (flag_yes refl (not_from_true _ c.if-not-roomy.false)) in
    end_inside s c.image_end-end.ensures

pub slice_bounds-rescue_piece-start : goal.slice_bounds-rescue_piece-start
slice_bounds-rescue_piece-start c =
    let a = c.args in
    let s = begun a.day.now a.out.now a.list.now c.«open».ensures c.in_ok-open.was c.roomy.ensures (flag_yes refl (not_from_true _ c.if-not-roomy.false)) in
    end_inside s c.image_end-end.ensures

pub slice_bounds-rescue_piece-count-2 : goal.slice_bounds-rescue_piece-count-2
slice_bounds-rescue_piece-count-2 c =
    let a = c.args in
    let s = begun a.day.now a.out.now a.list.now c.«open».ensures c.in_ok-open.was c.roomy.ensures (flag_yes refl (not_from_true _ c.if-not-roomy.false)) in
    end_output s c.image_end-end.ensures c.write_text.ensures

pub overflow_add-result : goal.overflow_add-result
overflow_add-result c =
    let a = c.args in
    let s = begun a.day.now a.out.now a.list.now c.«open».ensures c.in_ok-open.was c.roomy.ensures (flag_yes refl (not_from_true _ c.if-not-roomy.false)) in
    let l = written_few s c.image_end-end.ensures c.write_text.ensures c.rescue_piece-piece.ensures in
    search rules

pub returns-in_err-open : goal.returns-in_err-open
returns-in_err-open c =
    let a = c.args in
    let p = err_from_is_err_and c.from_residual.result c.from_residual.ensures.1 in
    rw (p.1, p.2) (saved_refused a.day.now a.out.now a.list.now c.«open».ensures c.in_err-open.was)

pub returns : goal.returns
returns c =
    let a = c.args in
    let s = begun a.day.now a.out.now a.list.now c.«open».ensures c.in_ok-open.was c.roomy.ensures (flag_yes refl (not_from_true _ c.if-not-roomy.false)) in
    saved_all s c.image_end-end.ensures c.write_text.ensures c.rescue_piece-piece.ensures

pub slice_bounds-rescue_piece-start-2 : goal.slice_bounds-rescue_piece-start-2
slice_bounds-rescue_piece-start-2 c =
    let a = c.args in
    let s = begun a.day.now a.out.now a.list.now c.«open».ensures c.in_ok-open.was c.roomy.ensures (flag_yes refl (not_from_true _ c.if-not-roomy.false)) in
    end_output s c.image_end-end.ensures c.write_text.ensures
