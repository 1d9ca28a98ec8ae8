-- `table_rows::place` meets its contract: with each kind the place is one kind further. Assumes nothing.
use mathlib.Core.Path.{refl}
use native.Mathlib.Omega.{arith}
use borrow.Author.Rules.{rules}
use Rattle.table_rows.specs.Kinds.{place}
use Rattle.table_rows.proofs.Laws.{rows_le, place_next}
use Rattle.table_rows.proofs.place.Goals as goal

pub loop-j-init : goal.loop-j-init
unfolding place
loop-j-init c = (refl, search rules)

pub loop-j-preserved : goal.loop-j-preserved
loop-j-preserved c =
    let kind = c.kind_at in (
      place_next _ _ _ _ _ c.loop-j.invariant.0 c.count.ensures kind.ensures.0,
      omega (arith, rows_le c.count.result kind.result.width (omega arith) kind.ensures.1),
    )
