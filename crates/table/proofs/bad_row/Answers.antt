-- `table::bad_row` meets its contract. Assumes nothing.
use Rattle.lists.specs.Tests.{flag}
use Rattle.lists.specs.Scan.{scan_pass, scan_fail, scan_none}
use mathlib.Core.Path.{◌≡◌, sym, ◌∙◌}
use native.Mathlib.Omega.{arith}
use native.Mathlib.Nat.{sub-zero}
use Rattle.table.specs.Check.{bad_row}
use Rattle.table.proofs.bad_row.Goals as goal

pub loop-i-init : goal.loop-i-init
unfolding bad_row
loop-i-init c = rw (sub-zero, c.count-total.ensures)

pub loop-i-preserved : goal.loop-i-preserved
loop-i-preserved c = c.loop-i.invariant ∙ scan_pass _ _ _ c.loop-i-test.true (flag c.row_rule.ensures c.if-not-row_rule.false)

pub returns-then-not-row_rule : goal.returns-then-not-row_rule
returns-then-not-row_rule c = sym (c.loop-i.invariant ∙ scan_fail _ _ _ c.loop-i-test.true (flag c.row_rule.ensures c.if-not-row_rule.true))

pub returns : goal.returns
returns c =
    let end : c.count-total.result ≡ c.loop-i.i = omega arith in
    end ∙ sym (c.loop-i.invariant ∙ scan_none _ _ _ c.loop-i-test.false)
