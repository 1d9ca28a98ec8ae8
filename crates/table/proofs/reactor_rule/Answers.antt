-- `table::reactor_rule` meets its contract. Assumes nothing.
use Rattle.std.proofs.Common.{arith}
use Rattle.std.proofs.lemmas.Grind.{common_steps}
use Rattle.table.specs.Rules.{initial_rule, reactor_rule}
use Rattle.table.proofs.reactor_rule.Goals as goal

pub returns-then-mode : goal.returns-then-mode
unfolding initial_rule reactor_rule
returns-then-mode c = grind (arith, common_steps)

pub returns-then-mode-count : goal.returns-then-mode-count
unfolding initial_rule reactor_rule
returns-then-mode-count c = grind (arith, common_steps)

pub returns-else-mode-count : goal.returns-else-mode-count
unfolding initial_rule reactor_rule
returns-else-mode-count c = grind (arith, common_steps)
