-- `day_rescue::roomy` meets its contract. Assumes nothing.
use Rattle.std.proofs.Common.{arith}
use Rattle.std.proofs.lemmas.Grind.{common_steps}
use Rattle.day_rescue.specs.Rescue.{roomy}
use Rattle.day_rescue.proofs.roomy.Goals as goal

pub returns-then-pending : goal.returns-then-pending
unfolding roomy
returns-then-pending c = grind (arith, common_steps)

pub returns-else-pending : goal.returns-else-pending
unfolding roomy
returns-else-pending c = grind (arith, common_steps)
