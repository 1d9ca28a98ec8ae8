-- `table_writer::put_row` meets its contract: one field behind the other. Assumes nothing.
use Rattle.table_writer.proofs.NumbersLaws.{row_written}
use Rattle.table_writer.proofs.put_row.Goals as goal

pub returns : goal.returns
returns c =
    row_written _ _ _ c.fields_at-fields.ensures.0 c.eight_bytes-first.ensures c.eight_bytes-second.ensures c.eight_bytes-third.ensures
    c.put_number-second_at.ensures c.put_number-third_at.ensures c.put_number.ensures
