-- `table::mode_rule` meets its contract. Assumes nothing.
use Rattle.std.proofs.Common.{arith}
use Rattle.std.proofs.lemmas.Grind.{common_steps}
use Rattle.table.specs.Rules.{mode_rule}
use Rattle.table.proofs.mode_rule.Goals as goal

pub returns : goal.returns
unfolding mode_rule
returns c = grind (arith, common_steps)
