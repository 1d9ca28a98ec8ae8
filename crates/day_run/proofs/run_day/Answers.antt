use Rattle.day_run.proofs.WholeLaws.{open_fits, open_table, told_none, told_accepted, told_refused}
use lib.Seq.{length-take-le}
use mathlib.Core.Path.{sym, ◌∙◌}
use Rattle.day_run.proofs.run_day.Goals as goal

pub returns-then-out-lt-LONGEST : goal.returns-then-out-lt-LONGEST
returns-then-out-lt-LONGEST c = told_none c.args.day.now c.args.out.now c.if-out-lt-LONGEST.true

pub slice_bounds-run_whole-end : goal.slice_bounds-run_whole-end
slice_bounds-run_whole-end c =
    sym (length-take-le _ _ (rw c.image_end-end.ensures (open_fits c.args.day.now (sym c.open-opened.ensures ∙ c.in-Ok.is))))

pub slice_bounds-run_whole-count : goal.slice_bounds-run_whole-count
slice_bounds-run_whole-count c =
    rw c.image_end-end.ensures (open_fits c.args.day.now (sym c.open-opened.ensures ∙ c.in-Ok.is))

pub slice_bounds-run_whole-start : goal.slice_bounds-run_whole-start
slice_bounds-run_whole-start c =
    rw c.image_end-end.ensures (open_fits c.args.day.now (sym c.open-opened.ensures ∙ c.in-Ok.is))

pub run_whole-requires : goal.run_whole-requires
run_whole-requires c =
    rw c.image_end-end.ensures (open_table c.args.day.now (sym c.open-opened.ensures ∙ c.in-Ok.is))

pub returns-in-Ok : goal.returns-in-Ok
returns-in-Ok c =
    told_accepted c.args.day.now c.args.out.now c.if-out-lt-LONGEST.false c.open-opened.ensures c.write_table-first.ensures c.in-Ok.is c.image_end-end.ensures
    c.run_whole.ensures

pub returns-in-Err : goal.returns-in-Err
returns-in-Err c =
    told_refused c.args.day.now c.args.out.now c.if-out-lt-LONGEST.false c.open-opened.ensures c.write_table-first.ensures c.in-Err.is
