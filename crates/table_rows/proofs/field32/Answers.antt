-- `table_rows::field32` meets its contract. Assumes nothing.
use Rattle.table_rows.proofs.Laws.{field_at}
use Rattle.table_rows.proofs.field32.Goals as goal

pub returns : goal.returns
returns c = search field_at
