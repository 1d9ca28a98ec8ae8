-- `table::bad_count` meets its contract. Assumes nothing.
use Rattle.lists.specs.Tests.{flag}
use Rattle.lists.specs.Scan.{scan_pass, scan_fail, scan_none}
use mathlib.Core.Path.{◌≡◌, refl, sym, ◌∙◌}
use native.Mathlib.Omega.{arith}
use Rattle.table_rows.specs.Kinds.{kind_count}
use Rattle.table.specs.Check.{bad_count}
use Rattle.table.proofs.bad_count.Goals as goal

pub loop-k-init : goal.loop-k-init
unfolding bad_count
loop-k-init c = refl

pub loop-k-preserved : goal.loop-k-preserved
loop-k-preserved c = c.loop-k.invariant ∙ scan_pass _ _ _ c.loop-k-test.true (flag c.count_fits.ensures c.if-not-count_fits.false)

pub returns-then-not-count_fits : goal.returns-then-not-count_fits
returns-then-not-count_fits c = sym (c.loop-k.invariant ∙ scan_fail _ _ _ c.loop-k-test.true (flag c.count_fits.ensures c.if-not-count_fits.true))

pub returns : goal.returns
returns c =
    let end : kind_count ≡ c.loop-k.k = omega arith in
    end ∙ sym (c.loop-k.invariant ∙ scan_none _ _ _ c.loop-k-test.false)
