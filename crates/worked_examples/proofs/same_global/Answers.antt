-- `worked_examples::same_global` meets its contract. Assumes nothing.
use Rattle.tags.specs.Views.{of_global}
use Rattle.tags.proofs.Orders.{told_same}
use Rattle.worked_examples.proofs.same_global.Goals as goal

pub returns : goal.returns
returns c = told_same (of_global c.args.t) (of_global c.args.u) c.eq.ensures
