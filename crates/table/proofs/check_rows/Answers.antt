-- `table::check_rows` meets its contract. Assumes nothing.
use Rattle.lists.specs.Scan.{scan_pass, scan_fail, scan_none}
use mathlib.Core.Path.{refl, sym, ◌∙◌}
use Rattle.table.specs.Check.{bad_kind}
use Rattle.table.proofs.Laws.{kind_broken, kind_kept, rows_broken, rows_kept}
use Rattle.table.proofs.check_rows.Goals as goal

pub loop-k-init : goal.loop-k-init
unfolding bad_kind
loop-k-init c = refl

pub returns-then-i-count : goal.returns-then-i-count
returns-then-i-count c =
    let row = c.bad_row-i.ensures in
    let within = c.loop-k-test.true in
    let broken = kind_broken _ _ row c.count.ensures c.if-i-count.true in
    rows_broken _ _ (sym (c.loop-k.invariant ∙ scan_fail _ _ _ within broken)) within row c.row_place.ensures.0

pub loop-k-preserved : goal.loop-k-preserved
loop-k-preserved c =
    c.loop-k.invariant ∙ scan_pass _ _ _ c.loop-k-test.true (kind_kept _ _ c.bad_row-i.ensures c.count.ensures c.if-i-count.false)

pub returns : goal.returns
returns c = rows_kept _ _ (sym (c.loop-k.invariant ∙ scan_none _ _ _ c.loop-k-test.false)) c.loop-k-test.false
