-- A bucket's `passes` meets its contract: test by test. Assumes nothing.
use Rattle.lists.specs.Tests.{tests}
use Rattle.store.specs.Store.{is_bucket, is_spent, bucket_of, bucket_rules}
use Rattle.store.proofs.BucketEntry.passes.Goals as goal
use Rattle.store.proofs.BucketEntry.passes.Goals.{then-self-actions, else-self-actions}

pub returns-then-self-action : goal.returns-then-self-action
unfolding is_bucket
returns-then-self-action c = rw c.in-At.is (search tests)

pub returns-else-self-action : goal.returns-else-self-action
unfolding is_bucket
returns-else-self-action c = rw c.in-At.is (search tests)

pub returns-then-self-tag : goal.returns-then-self-tag
unfolding is_spent
returns-then-self-tag c = rw c.in-Spent.is (search tests)

pub returns-then-self-tag-2 : goal.returns-then-self-tag-2
unfolding is_spent
returns-then-self-tag-2 c = rw c.in-Spent.is (search tests)

pub returns-else-self-tag-2 : goal.returns-else-self-tag-2
unfolding is_spent
returns-else-self-tag-2 c = rw c.in-Spent.is (search tests)

pub returns-else-self-action-2 : goal.returns-else-self-action-2
unfolding is_spent
returns-else-self-action-2 c = rw c.in-Spent.is (search tests)

pub returns-in-Of : goal.returns-in-Of
unfolding bucket_of
returns-in-Of c = rw c.in-Of.is (search tests)

pub returns-after-self-actions : goal.returns-after-self-actions
unfolding bucket_rules
returns-after-self-actions c =
    elim c.if-self-actions.branch [
      | then-self-actions w ↦ rw (c.in-Stray.is, w.result-is, w.within.ensures) (search tests)
      | else-self-actions w ↦ rw (c.in-Stray.is, w.result-is) (search tests)
    ]
