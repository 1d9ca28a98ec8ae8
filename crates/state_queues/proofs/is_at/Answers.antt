-- `state_queues::is_at` meets its contract. Assumes nothing.
use mathlib.Core.Path.{refl, ◌∙◌}
use borrow.Author.Tests.{ne_eqb}
use Rattle.state_queues.proofs.TakeLaws.{due_here, due_elsewhere, due_otherwise}
use Rattle.state_queues.proofs.is_at.Goals as goal

pub returns-then-d-t : goal.returns-then-d-t
returns-then-d-t c = λ e h. let a = c.args in due_otherwise a.d a.queue a.t e h c.if-d-t.true

pub returns-then-d-queue : goal.returns-then-d-queue
returns-then-d-queue c = λ e h. let a = c.args in due_here a.d a.queue a.t e h c.if-d-t.false c.if-d-queue.true refl

pub returns-else-d-queue : goal.returns-else-d-queue
returns-else-d-queue c = λ e h. let a = c.args in ne_eqb _ _ c.if-d-queue.false ∙ due_elsewhere a.d a.queue a.t e h c.if-d-queue.false
