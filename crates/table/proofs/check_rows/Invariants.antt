-- `table::check_rows` meets its contract: what is left of the kinds decides. Assumes nothing.
use Prim.Native.Nat.{◌-◌}
use Rattle.lists.specs.Scan.{scan}
use mathlib.Core.Path.{◌≡◌}
use Rattle.table_rows.specs.Kinds.{kind_count}
use Rattle.table.specs.Check.{kind_fits, bad_kind}
use Rattle.table.proofs.check_rows.Given as goal

abbrev pub invariant-loop-k : goal.invariant-loop-k
invariant-loop-k l = bad_kind l.image ≡ scan (kind_fits l.image) l.k (kind_count - l.k)
