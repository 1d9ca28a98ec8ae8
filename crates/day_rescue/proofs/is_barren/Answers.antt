-- `day_rescue::is_barren` meets its contract. Assumes nothing.
use Rattle.day_rescue.proofs.PlaceLaws.{second_some, no_op_there, op_over_there}
use mathlib.Core.Path.{sym, ◌∙◌}
use borrow.Author.Tests.{eqb-true}
use native.Mathlib.Omega.{arith}
use Rattle.day_rescue.proofs.is_barren.Goals as goal
use Rattle.day_rescue.proofs.is_barren.Goals.{then-bytes-at-ne0, else-bytes-at-ne0}

pub returns-then-bytes-at-eq0 : goal.returns-then-bytes-at-eq0
returns-then-bytes-at-eq0 c =
    λ t. elim c.if-bytes-at-ne0.branch [
      | then-bytes-at-ne0 w ↦ second_some _ _ w.if-bytes-at-ne0.true
      | else-bytes-at-ne0 w ↦ let e = eqb-true _ _ (sym w.value-is ∙ t) in no_op_there _ _ (λ l h. omega (arith, l, e))
    ]

pub returns-else-bytes-at-eq0 : goal.returns-else-bytes-at-eq0
returns-else-bytes-at-eq0 c = op_over_there _ _
