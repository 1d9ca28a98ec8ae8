-- `day_records::is_formed` meets its contract. Assumes nothing.
use Rattle.day_records.proofs.Laws.{answers_formed}
use Rattle.day_records.proofs.is_formed.Goals as goal

pub returns : goal.returns
returns c = answers_formed _ _ c.formed_op.ensures c.is_ok.ensures.value
