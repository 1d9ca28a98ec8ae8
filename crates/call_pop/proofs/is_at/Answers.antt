-- `call_pop::is_at` meets its contract. Assumes nothing.
use Rattle.tags.specs.Views.{of_global}
use Rattle.tags.proofs.Orders.{told_same}
use Rattle.call_pop.proofs.PopLaws.{is_at_lem}
use Rattle.call_pop.proofs.is_at.Goals as goal

pub returns-in-Some : goal.returns-in-Some
returns-in-Some c = is_at_lem c.args.h _ c.in-Some.is (told_same (of_global c.in-Some.x.tag) (of_global c.args.t) c.eq.ensures)
