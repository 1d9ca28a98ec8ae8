-- A bucket's `renew` meets its contract: the larger next microstep. Assumes nothing.
use Rattle.store.proofs.Laws.{raise_is}
use Rattle.store.proofs.BucketEntry.renew.Goals as goal

pub returns : goal.returns
returns c = raise_is _ _ c.max.ensures
