-- `table_broken_rules::reactor_fault` meets its contract. Assumes nothing.
use Rattle.std.proofs.Common.{arith}
use Rattle.std.proofs.lemmas.Grind.{common_steps}
use Rattle.table_broken_rules.specs.BrokenRules.{initial_fault, reactor_fault}
use Rattle.table_broken_rules.proofs.reactor_fault.Goals as goal

pub returns-then-mode : goal.returns-then-mode
unfolding initial_fault reactor_fault
returns-then-mode c = grind (arith, common_steps)

pub returns-then-mode-count : goal.returns-then-mode-count
unfolding initial_fault reactor_fault
returns-then-mode-count c = grind (arith, common_steps)

pub returns : goal.returns
unfolding initial_fault reactor_fault
returns c = grind (arith, common_steps)
