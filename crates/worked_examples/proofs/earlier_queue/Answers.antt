-- `worked_examples::earlier_queue` meets its contract. Assumes nothing.
use Rattle.tags.specs.Views.{of_queue}
use Rattle.tags.proofs.Orders.{told_earlier}
use Rattle.worked_examples.proofs.earlier_queue.Goals as goal

pub returns : goal.returns
returns c = told_earlier (of_queue c.args.v) (of_queue c.args.w) c.lt.ensures
