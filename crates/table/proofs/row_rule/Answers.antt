-- `table::row_rule` meets its contract. Assumes nothing.
use Rattle.std.proofs.Common.{arith}
use Rattle.std.proofs.lemmas.Grind.{common_steps}
use Rattle.table.specs.Rules.{row_rule}
use Rattle.table.proofs.row_rule.Goals as goal

pub returns-then-keys_exist : goal.returns-then-keys_exist
unfolding row_rule
returns-then-keys_exist c = grind (arith, common_steps)

pub returns-else-keys_exist : goal.returns-else-keys_exist
unfolding row_rule
returns-else-keys_exist c = grind (arith, common_steps)
