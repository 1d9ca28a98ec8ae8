-- `table::bad_count` meets its contract: what is left of the kinds decides. Assumes nothing.
use Prim.Native.Nat.{◌-◌}
use Rattle.lists.specs.Scan.{scan}
use mathlib.Core.Path.{◌≡◌}
use Rattle.table_rows.specs.Kinds.{kind_count}
use Rattle.table.specs.Check.{count_fits, bad_count}
use Rattle.table.proofs.bad_count.Given as goal

abbrev pub invariant-loop-k : goal.invariant-loop-k
invariant-loop-k l = bad_count l.image ≡ scan (count_fits l.image) l.k (kind_count - l.k)
