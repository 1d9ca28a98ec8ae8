-- `store::lose` meets its contract: what stays, then blanks, is the list laid over the array. Assumes nothing.
use Rattle.lists.specs.Loops.{lose_room, lose_done}
use borrow.Author.Rules.{rules}
use Rattle.store.proofs.lose.Goals as goal

pub blank-requires-clause-w_le_n : goal.blank-requires-clause-w_le_n
blank-requires-clause-w_le_n g c = search (rules, lose_room)

pub returns-clause-held : goal.returns-clause-held
returns-clause-held g c = search lose_done
