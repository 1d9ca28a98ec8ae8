-- `table_broken_rules::missing_key` meets its contract: what is left of the fields decides. Assumes nothing.
use Prim.Native.Nat.{◌-◌}
use mathlib.Core.Path.{◌≡◌}
use Rattle.lists.specs.Scan.{scan}
use Rattle.table.specs.Rules.{key_count, key_exists}
use Rattle.table_broken_rules.specs.BrokenRules.{field_at, missing_key}
use Rattle.table_broken_rules.proofs.missing_key.Given as goal

abbrev pub invariant-loop-j : goal.invariant-loop-j
invariant-loop-j l = missing_key l.image l.k l.i ≡ scan (λ n. key_exists l.image l.k l.i (field_at n)) l.j (key_count - l.j)
