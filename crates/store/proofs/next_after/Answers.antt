-- `store::next_after` meets its contract: one more, or the limit. Assumes nothing.
use Rattle.lists.specs.Tests.{tests}
use Rattle.store.specs.Store.{following}
use Rattle.store.proofs.next_after.Goals as goal

pub returns-then-microstep-lt-MAX_MICROSTEP : goal.returns-then-microstep-lt-MAX_MICROSTEP
unfolding following
returns-then-microstep-lt-MAX_MICROSTEP c = search tests

pub returns-else-microstep-lt-MAX_MICROSTEP : goal.returns-else-microstep-lt-MAX_MICROSTEP
unfolding following
returns-else-microstep-lt-MAX_MICROSTEP c = search tests
