-- `tags::ScopeClock::within` meets its contract. Assumes nothing.
use mathlib.Core.Path.{◌∙◌}
use Rattle.tags.proofs.Laws.{clock_all, clock_not_L, clock_not_G}
use Rattle.tags.proofs.ScopeClock.within.Goals as goal
use Rattle.tags.proofs.ScopeClock.within.Goals.{then-within, else-within}

pub returns-then-within-2 : goal.returns-then-within-2
returns-then-within-2 c = elim c.if-within.branch [ then-within w ↦ clock_all _ (cc) (cc) c.within-then-within-2.ensures | else-within w ↦ cc ]

pub returns-else-within-2 : goal.returns-else-within-2
returns-else-within-2 c =
    elim c.if-within.branch [
      | then-within w ↦ c.if-within-2.false ∙ clock_not_L _ (cc) (cc)
      | else-within w ↦ c.if-within-2.false ∙ clock_not_G _ (cc)
    ]
