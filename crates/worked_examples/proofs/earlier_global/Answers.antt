-- `worked_examples::earlier_global` meets its contract. Assumes nothing.
use Rattle.tags.specs.Views.{of_global}
use Rattle.tags.proofs.Orders.{told_earlier}
use Rattle.worked_examples.proofs.earlier_global.Goals as goal

pub returns : goal.returns
returns c = told_earlier (of_global c.args.t) (of_global c.args.u) c.lt.ensures
