-- `store_calls::clear_older_than` meets its contract: the values that stay decide on the bucket. Assumes nothing.
use Rattle.store_calls.proofs.Calls.{clear_before_done, left_room}
use Rattle.store_calls.proofs.clear_older_than.Goals as goal

pub find-there-requires : goal.find-there-requires
find-there-requires c = search left_room

pub returns : goal.returns
returns c = search clear_before_done
