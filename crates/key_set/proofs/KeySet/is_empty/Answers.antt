-- `key_set::KeySet::is_empty` meets its contract: a set with a lowest key has keys. Assumes nothing.
use borrow.Author.Rules.{rules}
use Rattle.key_set.proofs.Laws.{empty_told}
use Rattle.key_set.proofs.KeySet.is_empty.Goals as goal

pub returns : goal.returns
returns c = search (rules, empty_told)
