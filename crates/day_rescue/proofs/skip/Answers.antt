-- `day_rescue::skip` meets its contract. Assumes nothing.
use Rattle.day_rescue.proofs.PlaceLaws.{passed_none}
use Rattle.day_rescue.proofs.skip.Goals as goal

pub loop-at-init : goal.loop-at-init
loop-at-init c = passed_none _ _
