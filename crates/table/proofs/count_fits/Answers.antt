-- `table::count_fits` meets its contract. Assumes nothing.
use Rattle.std.proofs.Common.{arith}
use Rattle.std.proofs.lemmas.Grind.{common_steps}
use Rattle.table.specs.Check.{count_fits}
use Rattle.table.proofs.count_fits.Goals as goal

pub returns-then-kind_at-total : goal.returns-then-kind_at-total
unfolding count_fits
returns-then-kind_at-total c = grind (arith, common_steps)

pub returns-else-kind_at-total : goal.returns-else-kind_at-total
unfolding count_fits
returns-else-kind_at-total c = grind (arith, common_steps)
