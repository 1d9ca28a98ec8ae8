-- A value's `passes` meets its contract: test by test. Assumes nothing.
use Rattle.lists.specs.Tests.{tests}
use Rattle.tags.specs.Views.{of_global}
use Rattle.tags.proofs.Orders.{told_same, told_earlier}
use Rattle.store.specs.Store.{is_value, is_before, is_there, of_action, value_rules}
use Rattle.store.proofs.ValueEntry.passes.Goals as goal
use Rattle.store.proofs.ValueEntry.passes.Goals.{then-self-actions, else-self-actions}

pub returns-then-self-action : goal.returns-then-self-action
unfolding is_value
returns-then-self-action c = let e = told_same (of_global c.args.self.tag) (of_global c.in-At.tag) c.eq.ensures in rw (c.in-At.is, e) (search tests)

pub returns-else-self-action : goal.returns-else-self-action
unfolding is_value
returns-else-self-action c = rw c.in-At.is (search tests)

pub returns-then-self-action-2 : goal.returns-then-self-action-2
unfolding is_before
returns-then-self-action-2 c = let e = told_earlier (of_global c.args.self.tag) (of_global c.in-Before.tag) c.lt.ensures in rw (c.in-Before.is, e) (search tests)

pub returns-else-self-action-2 : goal.returns-else-self-action-2
unfolding is_before
returns-else-self-action-2 c = rw c.in-Before.is (search tests)

pub returns-then-self-action-3 : goal.returns-then-self-action-3
unfolding is_there
returns-then-self-action-3 c = rw c.in-There.is (search tests)

pub returns-else-self-action-3 : goal.returns-else-self-action-3
unfolding is_there
returns-else-self-action-3 c = rw c.in-There.is (search tests)

pub returns-in-Of : goal.returns-in-Of
unfolding of_action
returns-in-Of c = rw c.in-Of.is (search tests)

pub returns-after-self-actions : goal.returns-after-self-actions
unfolding value_rules
returns-after-self-actions c =
    elim c.if-self-actions.branch [
      | then-self-actions w ↦ rw (c.in-Stray.is, w.result-is, w.within.ensures) (search tests)
      | else-self-actions w ↦ rw (c.in-Stray.is, w.result-is) (search tests)
    ]
