-- `table_broken_rules::scope_fault` meets its contract. Assumes nothing.
use Rattle.std.proofs.Common.{arith}
use Rattle.std.proofs.lemmas.Grind.{common_steps}
use Rattle.table_broken_rules.specs.BrokenRules.{scope_fault}
use Rattle.table_broken_rules.proofs.scope_fault.Goals as goal

pub returns-then-not-parent_rule : goal.returns-then-not-parent_rule
unfolding scope_fault
returns-then-not-parent_rule c = grind (arith, common_steps)

pub returns-then-mode : goal.returns-then-mode
unfolding scope_fault
returns-then-mode c = grind (arith, common_steps)

pub returns-else-mode : goal.returns-else-mode
unfolding scope_fault
returns-else-mode c = grind (arith, common_steps)
