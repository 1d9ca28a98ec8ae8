-- `table_rows::count` meets its contract. Assumes nothing.
use Rattle.table_rows.specs.Kinds.{count}
use Rattle.table_rows.proofs.count.Goals as goal

pub returns : goal.returns
unfolding count
returns c = rw (← c.count_place.ensures) c.two_bytes.ensures
