-- `table_writer::put_counts` meets its contract: one count more a turn. Assumes nothing.
use borrow.Author.Rules.{rules}
use Rattle.table_writer.proofs.NumbersLaws.{no_counts, one_count_more}
use Rattle.table_writer.proofs.put_counts.Goals as goal

pub loop-k-init : goal.loop-k-init
loop-k-init c = no_counts _ (search rules)

pub loop-k-preserved : goal.loop-k-preserved
loop-k-preserved c = one_count_more _ _ c.loop-k.invariant c.eight_bytes-n.ensures c.put_number-end.ensures
