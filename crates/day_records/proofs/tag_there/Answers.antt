-- `day_records::tag_there` meets its contract. Assumes nothing.
use Rattle.day_records.proofs.Laws.{operands}
use Rattle.day_records.proofs.tag_there.Goals as goal

pub returns : goal.returns
returns c = search operands
