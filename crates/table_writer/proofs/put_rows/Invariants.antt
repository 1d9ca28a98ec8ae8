-- `table_writer::put_rows` meets its contract: one kind more a turn. Assumes nothing.
use Prim.Native.Nat.{◌*◌, ◌≤◌}
use mathlib.Core.Path.{◌≡◌}
use Rattle.byte_writer.specs.Written.{Written}
use Rattle.table_writer.specs.Numbers.{rows_before, rows_in}
use Rattle.table_writer.proofs.put_rows.Given as goal

abbrev pub invariant-loop-k : goal.invariant-loop-k
invariant-loop-k l = (l.j ≤ l.k * 65535) × (l.j ≡ rows_before l.counts l.k) × Written l.initial.rows l.initial.end (rows_in l.counts l.numbers l.k) l.rows l.end
