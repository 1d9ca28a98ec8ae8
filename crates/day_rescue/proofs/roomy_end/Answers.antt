-- `day_rescue::roomy_end` meets its contract. Assumes nothing.
use Rattle.day_rescue.proofs.PlaceLaws.{roomy_ends}
use Rattle.day_rescue.proofs.roomy_end.Goals as goal

pub returns : goal.returns
returns c = rw c.min.ensures (rw c.saturating_sub.ensures (roomy_ends _ _))
