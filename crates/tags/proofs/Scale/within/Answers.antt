-- `tags::Scale::within` meets its contract. Assumes nothing.
use Rattle.tags.proofs.Laws.{within_left, within_past}
use Rattle.tags.proofs.Scale.within.Goals as goal

pub returns-then-offset-le-MAX_OFFSET : goal.returns-then-offset-le-MAX_OFFSET
returns-then-offset-le-MAX_OFFSET g c = within_left _ c.offset.ensures c.microstep.ensures c.if-offset-le-MAX_OFFSET.true

pub returns-else-offset-le-MAX_OFFSET : goal.returns-else-offset-le-MAX_OFFSET
returns-else-offset-le-MAX_OFFSET g c = within_past _ c.offset.ensures c.if-offset-le-MAX_OFFSET.false
