-- `table_broken_rules::broken_rule` meets its contract. Assumes nothing.
use Rattle.std.proofs.Common.{arith}
use Rattle.std.proofs.lemmas.Grind.{common_steps}
use Rattle.table_broken_rules.specs.BrokenRules.{broken_rule}
use Rattle.table_broken_rules.proofs.broken_rule.Goals as goal

pub returns-in-Some : goal.returns-in-Some
unfolding broken_rule
returns-in-Some c = grind (arith, common_steps)

pub returns-in-None : goal.returns-in-None
unfolding broken_rule
returns-in-None c = grind (arith, common_steps)
