-- `day_rescue::is_pop` meets its contract. Assumes nothing.
use mathlib.Core.Path.{sym, ◌∙◌}
use Rattle.lists.specs.Tests.{yes_no}
use borrow.Author.Tests.{eqb-true, leb-true}
use native.Mathlib.Omega.{arith}
use Rattle.day_rescue.proofs.PlaceLaws.{pop_size}
use Rattle.day_rescue.proofs.is_pop.Goals as goal
use Rattle.day_rescue.proofs.is_pop.Goals.{then-bytes-at-ge-SHORTEST, else-bytes-at-ge-SHORTEST, then-bytes-at-eq6, else-bytes-at-eq6}
use Rattle.day_rescue.proofs.is_pop.Goals.{then-bytes-at-eq1, else-bytes-at-eq1, then-bytes-at-eq2, else-bytes-at-eq2, then-bytes-at-eq0, else-bytes-at-eq0}

pub returns-then-bytes-at-eq0-2 : goal.returns-then-bytes-at-eq0-2
returns-then-bytes-at-eq0-2 c =
    λ t. elim c.if-bytes-at-eq0.branch [
      | else-bytes-at-eq0 w ↦ absurd (yes_no (sym w.value-is ∙ c.if-bytes-at-eq0-2.true) w.if-bytes-at-eq0.false)
      | then-bytes-at-eq0 w ↦
          elim c.if-bytes-at-eq2.branch [
            | else-bytes-at-eq2 x ↦ absurd (yes_no (sym x.value-is ∙ w.if-bytes-at-eq0.true) x.if-bytes-at-eq2.false)
            | then-bytes-at-eq2 x ↦
                elim c.if-bytes-at-eq1.branch [
                  | else-bytes-at-eq1 y ↦ absurd (yes_no (sym y.value-is ∙ x.if-bytes-at-eq2.true) y.if-bytes-at-eq1.false)
                  | then-bytes-at-eq1 y ↦
                      elim c.if-bytes-at-eq6.branch [
                        | else-bytes-at-eq6 z ↦ absurd (yes_no (sym z.value-is ∙ y.if-bytes-at-eq1.true) z.if-bytes-at-eq6.false)
                        | then-bytes-at-eq6 z ↦
                            elim c.if-bytes-at-ge-SHORTEST.branch [
                              | else-bytes-at-ge-SHORTEST u ↦ absurd (omega (arith, leb-true _ _ (sym u.value-is ∙ z.if-bytes-at-eq6.true), u.if-bytes-at-ge-SHORTEST.false))
                              | then-bytes-at-ge-SHORTEST u ↦
                                  pop_size _ _ (omega (arith, u.if-bytes-at-ge-SHORTEST.true, c.requires)) (eqb-true _ _ t) (eqb-true _ _ (sym w.value-is ∙ c.if-bytes-at-eq0-2.true))
                                  (eqb-true _ _ (sym x.value-is ∙ w.if-bytes-at-eq0.true)) (eqb-true _ _ (sym y.value-is ∙ x.if-bytes-at-eq2.true)) (eqb-true _ _ (sym z.value-is ∙ y.if-bytes-at-eq1.true))
                                  (eqb-true _ _ (sym u.value-is ∙ z.if-bytes-at-eq6.true))
                            ]
                      ]
                ]
          ]
    ]
