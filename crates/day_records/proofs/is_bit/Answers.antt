-- `day_records::is_bit` meets its contract. Assumes nothing.
use Rattle.day_records.proofs.Laws.{operands}
use Rattle.day_records.proofs.is_bit.Goals as goal

pub returns : goal.returns
returns c = search operands
