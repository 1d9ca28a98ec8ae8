-- `table_broken_rules::bad_kind` meets its contract: what is left of the kinds decides. Assumes nothing.
use Prim.Native.Nat.{◌-◌}
use mathlib.Core.Path.{◌≡◌}
use Rattle.lists.specs.Scan.{scan}
use Rattle.table_rows.specs.Kinds.{kind_count}
use Rattle.table.specs.Check.{kind_fits, bad_kind}
use Rattle.table_broken_rules.proofs.bad_kind.Given as goal

abbrev pub invariant-loop-k : goal.invariant-loop-k
invariant-loop-k l = bad_kind l.image ≡ scan (kind_fits l.image) l.k (kind_count - l.k)
