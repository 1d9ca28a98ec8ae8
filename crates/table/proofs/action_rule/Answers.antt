-- `table::action_rule` meets its contract. Assumes nothing.
use Rattle.std.proofs.Common.{arith}
use Rattle.std.proofs.lemmas.Grind.{common_steps}
use Rattle.table.specs.Rules.{action_rule}
use Rattle.table.proofs.action_rule.Goals as goal

pub returns : goal.returns
unfolding action_rule
returns c = grind (arith, common_steps)
