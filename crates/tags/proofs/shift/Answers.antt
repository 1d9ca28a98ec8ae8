-- `tags::shift` meets its contract. Assumes nothing.
use Rattle.tags.proofs.Laws.{shifted_beyond, shifted_ahead, shifted_below, shifted_behind}
use Rattle.tags.proofs.shift.Goals as goal

pub returns-in-Some : goal.returns-in-Some
returns-in-Some g c = shifted_ahead _ _ _ c.offset-to.ensures c.offset-from.ensures c.offset.ensures c.if-from-to.true c.in-Some.ensures c.shifted_step-step.ensures

pub returns-in-None : goal.returns-in-None
returns-in-None g c = shifted_beyond _ _ _ c.offset-to.ensures c.offset-from.ensures c.offset.ensures c.if-from-to.true c.in-None.ensures

pub returns-in-Some-checked_sub : goal.returns-in-Some-checked_sub
returns-in-Some-checked_sub g c =
    shifted_behind _ _ _ c.offset-to.ensures c.offset-from.ensures c.offset-else-from-to.ensures c.if-from-to.false c.offset-else-from-to.type_inv
    c.in-Some-checked_sub.ensures c.shifted_step-step.ensures

pub returns-in-None-checked_sub : goal.returns-in-None-checked_sub
returns-in-None-checked_sub g c =
    shifted_below _ _ _ c.offset-to.ensures c.offset-from.ensures c.offset-else-from-to.ensures c.if-from-to.false c.in-None-checked_sub.ensures
