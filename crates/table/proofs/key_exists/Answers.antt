-- `table::key_exists` meets its contract. Assumes nothing.
use Rattle.std.proofs.Common.{arith}
use Rattle.std.proofs.lemmas.Grind.{common_steps}
use Rattle.table.specs.Rules.{key_exists}
use Rattle.table.proofs.key_exists.Goals as goal

pub returns-then-k-f : goal.returns-then-k-f
unfolding key_exists
returns-then-k-f c = grind (arith, common_steps)

pub returns-else-k-f : goal.returns-else-k-f
unfolding key_exists
returns-else-k-f c = grind (arith, common_steps)
