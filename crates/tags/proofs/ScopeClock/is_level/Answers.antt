-- `tags::ScopeClock::is_level` meets its contract. Assumes nothing.
use Rattle.tags.proofs.Orders.{told_same}
use Rattle.tags.proofs.ScopeClock.is_level.Goals as goal

pub returns : goal.returns
returns c = told_same _ _ c.eq.ensures
