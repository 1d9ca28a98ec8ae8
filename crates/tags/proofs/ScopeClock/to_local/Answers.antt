-- `tags::ScopeClock::to_local` meets its contract. Assumes nothing.
use Rattle.tags.proofs.Laws.{locals}
use Rattle.tags.proofs.ScopeClock.to_local.Goals as goal

pub returns-then-is_level : goal.returns-then-is_level
returns-then-is_level c = search locals

pub returns : goal.returns
returns c = search locals
