-- `call_transition_resets::is_cleared` meets its contract. Assumes nothing.
use Rattle.std.proofs.Common.{◌∙◌}
use borrow.Author.Tests.{le-ltb}
use Rattle.lists.specs.Tests.{yes_no}
use Rattle.lists.specs.Steps.{and_pass, and_stop}
use Rattle.call_transition_plan.proofs.PlanLaws.{row_has}
use Rattle.call_transition_resets.proofs.ResetLaws.{clears_in, clears_past}
use Rattle.call_transition_resets.proofs.is_cleared.Goals as goal
use Rattle.call_transition_resets.proofs.is_cleared.Goals.{then-a-count, else-a-count}

pub returns-then-contains : goal.returns-then-contains
returns-then-contains c =
    let a = c.args in
    elim c.if-a-count.branch [
      | then-a-count w ↦
          clears_in a.image.now a.inside.words a.a c.count.ensures w.if-a-count.true
          (and_pass (row_has _ w.action_scope.ensures w.contains.ensures (cc)) c.is_logical.ensures)
      | else-a-count w ↦ absurd (yes_no c.if-contains.true (w.value-is ∙ le-ltb _ _ w.if-a-count.false))
    ]

pub returns-else-contains : goal.returns-else-contains
returns-else-contains c =
    let a = c.args in
    elim c.if-a-count.branch [
      | then-a-count w ↦
          rw c.if-contains.false
          (clears_in a.image.now a.inside.words a.a c.count.ensures w.if-a-count.true (and_stop _ (row_has _ w.action_scope.ensures w.contains.ensures (cc))))
      | else-a-count w ↦ rw c.if-contains.false (clears_past a.image.now a.inside.words a.a c.count.ensures w.if-a-count.false)
    ]
