-- `table::parent_rule` meets its contract. Assumes nothing.
use Rattle.std.proofs.Common.{arith}
use Rattle.std.proofs.lemmas.Grind.{common_steps}
use Rattle.table.specs.Rules.{parent_rule}
use Rattle.table.proofs.parent_rule.Goals as goal

pub returns-then-above : goal.returns-then-above
unfolding parent_rule
returns-then-above c = grind (arith, common_steps)

pub returns-else-above : goal.returns-else-above
unfolding parent_rule
returns-else-above c = grind (arith, common_steps)
