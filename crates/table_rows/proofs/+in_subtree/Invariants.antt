-- `table_rows::in_subtree` meets its contract: each step goes up to a lower scope. Assumes nothing.
use Rattle.table_rows.proofs.+in_subtree.Given as goal

abbrev pub decreases-in_subtree : goal.decreases-in_subtree
decreases-in_subtree l = l.i
