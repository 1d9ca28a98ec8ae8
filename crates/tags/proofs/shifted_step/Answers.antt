-- `tags::shifted_step` meets its contract. Assumes nothing.
use native.Mathlib.Omega.{arith}
use Rattle.tags.proofs.Laws.{step_shifted, step_own}
use Rattle.tags.proofs.shifted_step.Goals as goal

pub returns-then-first-own : goal.returns-then-first-own
returns-then-first-own g c =
    step_shifted _ _ _ c.microstep-first.ensures c.microstep-own.ensures c.offset.ensures c.offset-2.ensures c.microstep.ensures c.if-offset.true c.if-first-own.true (omega arith)

pub returns-else-offset : goal.returns-else-offset
returns-else-offset g c =
    step_own _ _ _ c.microstep-first.ensures c.microstep-own.ensures c.offset.ensures c.offset-2.ensures c.else-offset.either c.from-else-offset.ensures
