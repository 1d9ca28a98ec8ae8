-- `manager::lay_scopes` meets its contract: invariant: the first i scopes, and blanks behind them. Assumes nothing.
use native.Mathlib.Omega.{arith}
use Prim.Native.Nat.{◌≤◌}
use Rattle.manager.proofs.Front.{copying_none, copying_next, copying_all}
use borrow.Author.Rules.{rules}
use Rattle.manager.proofs.lay_scopes.Goals as goal

pub loop-i-init : goal.loop-i-init
loop-i-init c = search copying_none

pub loop-i-preserved : goal.loop-i-preserved
loop-i-preserved c =
    let h : c.min-i-end.result ≤ 32 = omega (arith, c.min-i-end.ensures) in
    copying_next _ _ _ _ _ _ _ _ _ _ c.loop-i.invariant c.loop-i-test.true h c.put_scope.ensures

pub returns : goal.returns
returns c = record { scoped = search copying_all; clocks_len = (search rules, search rules, search rules) }
