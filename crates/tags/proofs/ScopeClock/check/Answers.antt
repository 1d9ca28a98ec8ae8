-- `tags::ScopeClock::check` meets its contract. Assumes nothing.
use Rattle.lists.specs.Tests.{flag}
use Rattle.tags.proofs.Laws.{checked_clock, checked_tag, checked_both}
use Rattle.tags.proofs.ScopeClock.check.Goals as goal

pub returns-then-not-within : goal.returns-then-not-within
returns-then-not-within g c = checked_clock _ _ (flag c.within.ensures c.if-not-within.true)

pub returns-then-not-within-2 : goal.returns-then-not-within-2
returns-then-not-within-2 g c = checked_tag _ _ (flag c.within.ensures c.if-not-within.false) (flag c.within-2.ensures c.if-not-within-2.true)

pub returns : goal.returns
returns g c = checked_both _ _ (flag c.within.ensures c.if-not-within.false) (flag c.within-2.ensures c.if-not-within-2.false)
