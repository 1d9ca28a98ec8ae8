-- `day_records::is_one` meets its contract. Assumes nothing.
use Rattle.day_records.proofs.Laws.{operands}
use Rattle.day_records.proofs.is_one.Goals as goal

pub returns : goal.returns
returns c = search operands
