-- `worked_examples::earlier_local` meets its contract. Assumes nothing.
use Rattle.tags.specs.Views.{of_local}
use Rattle.tags.proofs.Orders.{told_earlier}
use Rattle.worked_examples.proofs.earlier_local.Goals as goal

pub returns : goal.returns
returns c = told_earlier (of_local c.args.x) (of_local c.args.y) c.lt.ensures
