-- `table::check` meets its contract. Assumes nothing.
use Rattle.std.proofs.Common.{arith}
use Rattle.std.proofs.lemmas.Grind.{common_steps}
use Rattle.table.specs.Check.{check}
use Rattle.table.proofs.check.Goals as goal

pub returns-then-wrong_length : goal.returns-then-wrong_length
unfolding check
returns-then-wrong_length c = grind (arith, common_steps)

pub returns-then-one_byte-ne-VERSION : goal.returns-then-one_byte-ne-VERSION
unfolding check
returns-then-one_byte-ne-VERSION c = grind (arith, common_steps)

pub returns-then-image-lt-HEAD : goal.returns-then-image-lt-HEAD
unfolding check
returns-then-image-lt-HEAD c = grind (arith, common_steps)

pub returns-then-k-lt-KINDS : goal.returns-then-k-lt-KINDS
unfolding check
returns-then-k-lt-KINDS c = grind (arith, common_steps)

pub returns-then-place-image : goal.returns-then-place-image
unfolding check
returns-then-place-image c = grind (arith, common_steps)

pub returns : goal.returns
unfolding check
returns c = grind (arith, common_steps)
