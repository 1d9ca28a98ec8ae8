-- `store_rules::has_bucket` meets its contract: the row that is noted, or some row. Assumes nothing.
use Rattle.store_rules.proofs.Laws.{found_there}
use Rattle.store_rules.proofs.has_bucket.Goals as goal

pub returns-else-is_noted : goal.returns-else-is_noted
returns-else-is_noted c = search found_there
