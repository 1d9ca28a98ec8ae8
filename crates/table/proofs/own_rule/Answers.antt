-- `table::own_rule` meets its contract. Assumes nothing.
use Rattle.std.proofs.Common.{arith}
use Rattle.std.proofs.lemmas.Grind.{common_steps}
use Rattle.table.specs.Rules.{own_rule}
use Rattle.table.proofs.own_rule.Goals as goal

pub returns-in-0 : goal.returns-in-0
unfolding own_rule
returns-in-0 c = grind (arith, common_steps)

pub returns-in-1 : goal.returns-in-1
unfolding own_rule
returns-in-1 c = grind (arith, common_steps)

pub returns-in-2 : goal.returns-in-2
unfolding own_rule
returns-in-2 c = grind (arith, common_steps)

pub returns-in-3 : goal.returns-in-3
unfolding own_rule
returns-in-3 c = grind (arith, common_steps)

pub returns-in-4 : goal.returns-in-4
unfolding own_rule
returns-in-4 c = grind (arith, common_steps)

pub returns-in-8 : goal.returns-in-8
unfolding own_rule
returns-in-8 c = grind (arith, common_steps)

pub returns-in_default : goal.returns-in_default
unfolding own_rule
returns-in_default c = grind (arith, common_steps)
