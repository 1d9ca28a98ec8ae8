-- `table_broken_rules::mode_fault` meets its contract. Assumes nothing.
use Rattle.std.proofs.Common.{arith}
use Rattle.std.proofs.lemmas.Grind.{common_steps}
use Rattle.table_broken_rules.specs.BrokenRules.{mode_fault}
use Rattle.table_broken_rules.proofs.mode_fault.Goals as goal

pub returns-then-mode-count : goal.returns-then-mode-count
unfolding mode_fault
returns-then-mode-count c = grind (arith, common_steps)

pub returns-then-parent : goal.returns-then-parent
unfolding mode_fault
returns-then-parent c = grind (arith, common_steps)

pub returns-then-mode_scope-i : goal.returns-then-mode_scope-i
unfolding mode_fault
returns-then-mode_scope-i c = grind (arith, common_steps)

pub returns-then-mode_reactor-reactor : goal.returns-then-mode_reactor-reactor
unfolding mode_fault
returns-then-mode_reactor-reactor c = grind (arith, common_steps)

pub returns : goal.returns
unfolding mode_fault
returns c = grind (arith, common_steps)
