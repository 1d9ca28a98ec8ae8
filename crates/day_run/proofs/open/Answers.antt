use Rattle.day_run.proofs.WholeLaws.{open_short, open_large, open_checked}
use lib.Seq.{length-take-le}
use mathlib.Core.Path.{sym}
use Rattle.day_run.proofs.open.Goals as goal
use Rattle.day_run.proofs.open.Goals.{then-day-end-via-then-day-end, then-day-end-via-else-day-end+then-end-gt-LARGEST}

pub returns-then-day-end : goal.returns-then-day-end
returns-then-day-end c =
    elim c.then-day-end.branch [
      | then-day-end-via-then-day-end w ↦ open_short c.args.day.now _ c.image_end-end.ensures w.if-day-end.true
      | then-day-end-via-else-day-end+then-end-gt-LARGEST w ↦ open_large c.args.day.now _ c.image_end-end.ensures w.if-end-gt-LARGEST.true
    ]

pub slice_bounds-check-end : goal.slice_bounds-check-end
slice_bounds-check-end c = sym (length-take-le _ _ c.if-day-end.false)

pub returns : goal.returns
returns c =
    open_checked c.args.day.now _ c.image_end-end.ensures c.if-day-end.false c.if-end-gt-LARGEST.false c.check.ensures
