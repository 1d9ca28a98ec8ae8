-- `worked_examples::same_local` meets its contract. Assumes nothing.
use Rattle.tags.specs.Views.{of_local}
use Rattle.tags.proofs.Orders.{told_same}
use Rattle.worked_examples.proofs.same_local.Goals as goal

pub returns : goal.returns
returns c = told_same (of_local c.args.x) (of_local c.args.y) c.eq.ensures
