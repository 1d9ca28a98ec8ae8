-- `value_store::call_rows` meets its contract: a law for each refusal, or the call. Assumes nothing.
use Rattle.value_store.proofs.Laws.{call_key, call_tag, call_passed}
use Rattle.value_store.proofs.call_rows.Goals as goal

pub returns-then-count-action : goal.returns-then-count-action
returns-then-count-action c = search call_key

pub perform-requires : goal.perform-requires
perform-requires c = rw c.most_held.ensures c.requires

pub returns-then-not-within : goal.returns-then-not-within
returns-then-not-within c = search call_tag

pub returns : goal.returns
returns c = search call_passed
