-- `store_rules::none` meets its contract: the first that passes is past the end. Assumes nothing.
use Rattle.store_rules.proofs.Laws.{none_passes}
use Rattle.store_rules.proofs.none.Goals as goal

pub returns : goal.returns
returns g c = none_passes g.E.Entry.layout _ _ _ c.requires c.find.ensures
