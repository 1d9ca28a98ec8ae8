-- `table_writer::put_rows_of` meets its contract: one row more a turn. Assumes nothing.
use Rattle.byte_writer.specs.Written.{Written}
use Rattle.table_writer.specs.Numbers.{kind_rows}
use Rattle.table_writer.proofs.put_rows_of.Given as goal

abbrev pub invariant-loop-i : goal.invariant-loop-i
invariant-loop-i l = Written l.initial.rows l.initial.end (kind_rows l.k l.numbers l.j l.i) l.rows l.end
