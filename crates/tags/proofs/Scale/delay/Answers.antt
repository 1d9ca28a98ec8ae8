-- `tags::Scale::delay` meets its contract. Assumes nothing.
use Rattle.lists.specs.Tests.{flag}
use Rattle.tags.proofs.Laws.{delayed_six, delayed_more, delayed_over}
use Rattle.tags.proofs.Scale.delay.Goals as goal

pub returns-then-not-within : goal.returns-then-not-within
returns-then-not-within g c = delayed_six _ (flag c.within.ensures c.if-not-within.true)

pub returns-then-step-lt-MAX_MICROSTEP : goal.returns-then-step-lt-MAX_MICROSTEP
returns-then-step-lt-MAX_MICROSTEP g c =
    delayed_more _ (flag c.within.ensures c.if-not-within.false) c.microstep-step.ensures c.if-step-lt-MAX_MICROSTEP.true c.offset.ensures c.new.ensures

pub returns-else-step-lt-MAX_MICROSTEP : goal.returns-else-step-lt-MAX_MICROSTEP
returns-else-step-lt-MAX_MICROSTEP g c =
    delayed_over _ (flag c.within.ensures c.if-not-within.false) c.microstep-step.ensures c.if-step-lt-MAX_MICROSTEP.false
