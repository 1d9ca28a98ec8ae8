-- `table_rows::count_place` meets its contract. Assumes nothing.
use mathlib.Core.Path.{refl}
use Rattle.table_rows.specs.Kinds.{count_place}
use Rattle.table_rows.proofs.count_place.Goals as goal

pub returns : goal.returns
unfolding count_place
returns c = refl
