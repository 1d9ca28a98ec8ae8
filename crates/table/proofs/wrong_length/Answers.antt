-- `table::wrong_length` meets its contract. Assumes nothing.
use Rattle.std.proofs.Common.{arith}
use Rattle.std.proofs.lemmas.Grind.{common_steps}
use Rattle.table.specs.Check.{wrong_length}
use Rattle.table.proofs.wrong_length.Goals as goal

pub returns-then-image-lt5 : goal.returns-then-image-lt5
unfolding wrong_length
returns-then-image-lt5 c = grind (arith, common_steps)

pub returns-else-image-lt5 : goal.returns-else-image-lt5
unfolding wrong_length
returns-else-image-lt5 c = grind (arith, common_steps)
