-- `store_calls::push` meets its contract: full, or both are put. Assumes nothing.
use Rattle.std.proofs.Common.{inl, inr}
use Rattle.store_calls.proofs.Calls.{push_no_value, push_no_bucket, push_done}
use Rattle.store_calls.proofs.push.Goals as goal

pub returns-then-limit-i : goal.returns-then-limit-i
returns-then-limit-i c = elim c.then-limit-i.either [ inl h ↦ search push_no_value | inr h ↦ search push_no_bucket ]

pub returns : goal.returns
returns c = search push_done
