-- `table_schedule::names_mode` meets its contract. Assumes nothing.
use Rattle.std.proofs.Common.{arith}
use Rattle.std.proofs.lemmas.Grind.{common_steps}
use Rattle.table_schedule.specs.Schedule.{names_mode}
use Rattle.table_schedule.proofs.names_mode.Goals as goal

pub returns : goal.returns
unfolding names_mode
returns c = grind (arith, common_steps)
