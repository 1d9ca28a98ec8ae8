-- `day_records::tag_at` meets its contract. Assumes nothing.
use Rattle.day_records.proofs.Laws.{operands}
use Rattle.day_records.proofs.tag_at.Goals as goal

pub returns : goal.returns
returns c = search operands
