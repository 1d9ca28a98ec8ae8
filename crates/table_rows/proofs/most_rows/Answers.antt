-- `table_rows::most_rows` meets its contract: no version has more than nine kinds. Assumes nothing.
use Rattle.table_rows.proofs.Laws.{most_past}
use Rattle.table_rows.proofs.most_rows.Goals as goal

pub returns-else-k-lt-KINDS : goal.returns-else-k-lt-KINDS
returns-else-k-lt-KINDS c = most_past _ _ c.if-k-lt-KINDS.false
