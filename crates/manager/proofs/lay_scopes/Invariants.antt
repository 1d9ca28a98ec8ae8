-- `manager::lay_scopes` meets its contract: invariant: the first i scopes, and blanks behind them. Assumes nothing.
use Rattle.manager.proofs.Front.{Copying}
use Rattle.manager.proofs.lay_scopes.Given as goal

abbrev pub invariant-loop-i : goal.invariant-loop-i
invariant-loop-i l = Copying l.clocks l.active l.ever l.i l.rows
