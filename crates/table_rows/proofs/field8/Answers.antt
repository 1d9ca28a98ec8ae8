-- `table_rows::field8` meets its contract. Assumes nothing.
use Rattle.table_rows.proofs.Laws.{field_at}
use Rattle.table_rows.proofs.field8.Goals as goal

pub returns : goal.returns
returns c = search field_at
