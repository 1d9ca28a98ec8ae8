-- `manager::lay_slots` meets its contract: the first i, and blanks behind them. Assumes nothing.
use native.Mathlib.Omega.{arith}
use Prim.Native.Nat.{◌≤◌}
use Rattle.value_store.proofs.Laws.{length_mapped}
use Rattle.manager.proofs.Front.{rows_none, rows_next, rows_all}
use borrow.Author.Rules.{rules}
use Rattle.manager.proofs.lay_slots.Goals as goal

pub loop-i-init : goal.loop-i-init
loop-i-init c = search rows_none

pub loop-i-preserved : goal.loop-i-preserved
loop-i-preserved c = let h : c.min-i-end.result ≤ 256 = omega (arith, c.min-i-end.ensures) in search rows_next

pub returns : goal.returns
returns c = record { held = search rows_all; slots_len = search (rules, length_mapped) }
