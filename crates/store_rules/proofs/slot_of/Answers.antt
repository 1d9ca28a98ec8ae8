-- `store_rules::slot_of` meets its contract: the sum's remainder. Assumes nothing.
use mathlib.Core.Path.{refl}
use Rattle.store_rules.specs.Rules.{slot_of}
use borrow.Author.Rules.{rules}
use Rattle.store_rules.proofs.slot_of.Goals as goal

pub returns : goal.returns
unfolding slot_of
returns c = (refl, search rules)
