-- `table_writer::put_counts` meets its contract: one count more a turn. Assumes nothing.
use Rattle.byte_writer.specs.Written.{Written}
use Rattle.table_writer.specs.Numbers.{counts_in}
use Rattle.table_writer.proofs.put_counts.Given as goal

abbrev pub invariant-loop-k : goal.invariant-loop-k
invariant-loop-k l = Written l.initial.counts l.initial.end (counts_in l.numbers l.k) l.counts l.end
