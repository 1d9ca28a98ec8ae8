-- `call_transition_plan::subtree_if` meets its contract. Assumes nothing.
use Rattle.std.proofs.Common.{rules}
use Rattle.call_transition_plan.proofs.PlanLaws.{marks_never}
use Rattle.call_transition_plan.proofs.subtree_if.Goals as goal

pub returns-then-reset : goal.returns-then-reset
returns-then-reset c = rw c.if-reset.true (c.scopes_where.ensures _ λ i b e. search rules)

pub returns-else-reset : goal.returns-else-reset
returns-else-reset c = rw c.empty.ensures (marks_never _ _ λ i. rw c.if-reset.false)
