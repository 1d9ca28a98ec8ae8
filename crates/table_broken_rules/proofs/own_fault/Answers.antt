-- `table_broken_rules::own_fault` meets its contract. Assumes nothing.
use Rattle.std.proofs.Common.{arith}
use Rattle.std.proofs.lemmas.Grind.{common_steps}
use Rattle.table.specs.Rules.{mode_rule}
use Rattle.table_broken_rules.specs.BrokenRules.{own_fault, mode_row_fault, level_fault, logical_fault, timer_fault}
use Rattle.table_broken_rules.proofs.own_fault.Goals as goal

pub returns-in-0 : goal.returns-in-0
unfolding own_fault
returns-in-0 c = grind (arith, common_steps)

pub returns-in-1 : goal.returns-in-1
unfolding own_fault
returns-in-1 c = grind (arith, common_steps)

pub returns-in-2 : goal.returns-in-2
unfolding own_fault mode_row_fault mode_rule
returns-in-2 c = grind (arith, common_steps)

pub returns-in-3 : goal.returns-in-3
unfolding own_fault level_fault
returns-in-3 c = grind (arith, common_steps)

pub returns-in-4 : goal.returns-in-4
unfolding own_fault logical_fault
returns-in-4 c = grind (arith, common_steps)

pub returns-in-8 : goal.returns-in-8
unfolding own_fault timer_fault
returns-in-8 c = grind (arith, common_steps)

pub returns-in_default : goal.returns-in_default
unfolding own_fault
returns-in_default c = grind (arith, common_steps)
