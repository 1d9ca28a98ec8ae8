-- `store_calls::clear` meets its contract: the parts promise it. Assumes nothing.
use Rattle.store.specs.Store.{cleared}
use borrow.Author.Rules.{rules}
use Rattle.store_calls.proofs.clear.Goals as goal

pub returns : goal.returns
unfolding cleared
returns c = search rules
