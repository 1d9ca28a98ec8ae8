-- `table::timer_rule` meets its contract. Assumes nothing.
use Rattle.std.proofs.Common.{arith}
use Rattle.std.proofs.lemmas.Grind.{common_steps}
use Rattle.table.specs.Rules.{timer_rule}
use Rattle.table.proofs.timer_rule.Goals as goal

pub returns : goal.returns
unfolding timer_rule
returns c = grind (arith, common_steps)
