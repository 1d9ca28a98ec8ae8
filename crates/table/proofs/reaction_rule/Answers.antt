-- `table::reaction_rule` meets its contract. Assumes nothing.
use Rattle.std.proofs.Common.{arith}
use Rattle.std.proofs.lemmas.Grind.{common_steps}
use Rattle.table.specs.Rules.{reaction_rule}
use Rattle.table.proofs.reaction_rule.Goals as goal

pub returns : goal.returns
unfolding reaction_rule
returns c = grind (arith, common_steps)
