-- `table_broken_rules::bad_kind` meets its contract: what is left of the kinds decides. Assumes nothing.
use mathlib.Core.Path.{◌≡◌, refl, sym, ◌∙◌}
use native.Mathlib.Omega.{arith}
use Rattle.lists.specs.Scan.{scan_pass, scan_fail, scan_none}
use Rattle.table_rows.specs.Kinds.{kind_count}
use Rattle.table.specs.Check.{bad_kind}
use Rattle.table.proofs.Laws.{kind_broken, kind_kept}
use Rattle.table_broken_rules.proofs.bad_kind.Goals as goal

pub loop-k-init : goal.loop-k-init
unfolding bad_kind
loop-k-init c = refl

pub returns-then-bad_row-count : goal.returns-then-bad_row-count
returns-then-bad_row-count c =
    sym (c.loop-k.invariant ∙ scan_fail _ _ _ c.loop-k-test.true (kind_broken _ _ c.bad_row.ensures c.count.ensures c.if-bad_row-count.true))

pub loop-k-preserved : goal.loop-k-preserved
loop-k-preserved c =
    c.loop-k.invariant ∙ scan_pass _ _ _ c.loop-k-test.true (kind_kept _ _ c.bad_row.ensures c.count.ensures c.if-bad_row-count.false)

pub returns : goal.returns
returns c =
    let end : kind_count ≡ c.loop-k.k = omega arith in
    end ∙ sym (c.loop-k.invariant ∙ scan_none _ _ _ c.loop-k-test.false)
