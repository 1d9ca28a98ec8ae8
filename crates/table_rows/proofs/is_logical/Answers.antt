-- `table_rows::is_logical` meets its contract. Assumes nothing.
use Rattle.lists.specs.Steps.{chains}
use Rattle.table_rows.specs.Rows.{is_logical}
use Rattle.table_rows.proofs.is_logical.Goals as goal

pub returns : goal.returns
unfolding is_logical
returns c = search chains
