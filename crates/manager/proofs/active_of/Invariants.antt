-- `manager::active_of` meets its contract: invariant: the first i are those of the rows. Assumes nothing.
use mathlib.Core.Path.{◌≡◌}
use Prim.Native.Nat.{◌≤◌}
use mathlib.Core.List.{map}
use lib.ListN.{take, length}
use Rattle.state_scopes.specs.Scopes.{most_scopes, scopes_of}
use Rattle.manager.proofs.active_of.Given as goal

abbrev pub invariant-loop-i : goal.invariant-loop-i
invariant-loop-i l = (l.i ≤ most_scopes) × (length l.flag-items ≡ most_scopes) × (take l.i (l.flag-items) ≡ take l.i (map (λ x. x.active) (scopes_of l.rows)))
