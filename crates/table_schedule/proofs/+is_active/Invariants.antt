-- `table_schedule::is_active` meets its contract: each step goes up to a lower scope. Assumes nothing.
use Rattle.table_schedule.proofs.+is_active.Given as goal

abbrev pub decreases-is_active : goal.decreases-is_active
decreases-is_active l = l.i
