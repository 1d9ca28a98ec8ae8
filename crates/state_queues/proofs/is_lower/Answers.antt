-- `state_queues::is_lower` meets its contract. Assumes nothing.
use mathlib.Core.Path.{◌∙◌}
use borrow.Author.Tests.{ne_eqb}
use Rattle.state_queues.specs.Queue.{of_earliest}
use Rattle.state_queues.proofs.LowLaws.{low_here, low_other}
use Rattle.state_queues.proofs.is_lower.Goals as goal

pub returns-then-d-queue : goal.returns-then-d-queue
returns-then-d-queue c = λ e h. let a = c.args in low_here a.queue (of_earliest a.lowest) a.d e h c.if-d-queue.true c.lowers.ensures

pub returns-else-d-queue : goal.returns-else-d-queue
returns-else-d-queue c = λ e h. let a = c.args in ne_eqb _ _ c.if-d-queue.false ∙ low_other a.queue (of_earliest a.lowest) a.d e h c.if-d-queue.false
