-- `store_calls::next_microstep` meets its contract: with and without a bucket. Assumes nothing.
use Rattle.store_calls.proofs.Calls.{no_bucket, this_bucket}
use Rattle.store_calls.proofs.next_microstep.Goals as goal

pub returns-then-n-j : goal.returns-then-n-j
returns-then-n-j c = search no_bucket

pub returns : goal.returns
returns c = search this_bucket
