-- `table_schedule::is_current` meets its contract. Assumes nothing.
use Rattle.std.proofs.Common.{arith}
use Rattle.std.proofs.lemmas.Grind.{common_steps}
use Rattle.table_schedule.specs.Schedule.{is_current}
use Rattle.table_schedule.proofs.is_current.Goals as goal

pub returns-then-named : goal.returns-then-named
unfolding is_current
returns-then-named c = grind (arith, common_steps)

pub returns-else-named : goal.returns-else-named
unfolding is_current
returns-else-named c = grind (arith, common_steps)
