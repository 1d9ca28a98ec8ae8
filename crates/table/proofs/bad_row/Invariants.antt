-- `table::bad_row` meets its contract: what is left of the rows decides. Assumes nothing.
use Prim.Native.Nat.{◌-◌}
use Rattle.lists.specs.Scan.{scan}
use mathlib.Core.Path.{◌≡◌}
use Rattle.table.specs.Rules.{row_rule}
use Rattle.table.specs.Check.{bad_row}
use Rattle.table.proofs.bad_row.Given as goal

abbrev pub invariant-loop-i : goal.invariant-loop-i
invariant-loop-i l = bad_row l.image l.k ≡ scan (row_rule l.image l.k) l.i (l.total - l.i)
