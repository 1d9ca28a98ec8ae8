-- `table_rows::row_place` meets its contract. Assumes nothing.
use native.Mathlib.Omega.{arith}
use Rattle.table_rows.proofs.Laws.{rows_le, row_sum}
use Rattle.table_rows.proofs.row_place.Goals as goal

pub returns : goal.returns
returns c =
    let kind = c.kind_at in (
      row_sum _ _ _ _ _ c.place.ensures.0 kind.ensures.0,
      omega (arith, rows_le c.args.i kind.result.width (omega arith) kind.ensures.1),
    )
