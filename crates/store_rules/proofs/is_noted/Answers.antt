-- `store_rules::is_noted` meets its contract: the row that is noted is looked at. Assumes nothing.
use Rattle.store_rules.proofs.Laws.{noted_there}
use Rattle.store_rules.proofs.is_noted.Goals as goal

pub returns-then-j-n : goal.returns-then-j-n
returns-then-j-n c = search noted_there
