-- `table::scope_rule` meets its contract. Assumes nothing.
use Rattle.std.proofs.Common.{arith}
use Rattle.std.proofs.lemmas.Grind.{common_steps}
use Rattle.table.specs.Rules.{scope_rule}
use Rattle.table.proofs.scope_rule.Goals as goal

pub returns-then-mode : goal.returns-then-mode
unfolding scope_rule
returns-then-mode c = grind (arith, common_steps)

pub returns-else-mode : goal.returns-else-mode
unfolding scope_rule
returns-else-mode c = grind (arith, common_steps)

pub returns-else-parent_rule : goal.returns-else-parent_rule
unfolding scope_rule
returns-else-parent_rule c = grind (arith, common_steps)
