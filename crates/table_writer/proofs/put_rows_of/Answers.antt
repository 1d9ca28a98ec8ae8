-- `table_writer::put_rows_of` meets its contract: one row more a turn. Assumes nothing.
use Rattle.table_writer.proofs.NumbersLaws.{no_rows, one_row_more}
use Rattle.table_writer.proofs.put_rows_of.Goals as goal

pub loop-i-init : goal.loop-i-init
loop-i-init c = no_rows _ _ _ c.requires.0

pub loop-i-preserved : goal.loop-i-preserved
loop-i-preserved c = one_row_more _ _ _ _ c.loop-i.invariant c.put_row-end.ensures
