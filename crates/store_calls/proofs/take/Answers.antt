-- `store_calls::take` meets its contract: held or not. Assumes nothing.
use Rattle.store_calls.proofs.Calls.{no_value, this_value, take_none, take_some}
use Rattle.store_calls.proofs.take.Goals as goal

pub returns-then-held-i : goal.returns-then-held-i
returns-then-held-i c = record { found_value = search no_value; laid = search take_none }

pub returns : goal.returns
returns c = record { found_value = search this_value; laid = search take_some }
