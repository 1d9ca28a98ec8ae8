-- `store::is_cover` meets its contract: its own bucket, with a next microstep past the value. Assumes nothing.
use Rattle.std.proofs.Common.{inl, inr}
use Rattle.lists.specs.Tests.{tests}
use Rattle.store.specs.Store.{covered_by, is_bucket}
use Rattle.store.proofs.is_cover.Goals as goal

pub returns-then-b-tag : goal.returns-then-b-tag
unfolding covered_by is_bucket
returns-then-b-tag c = rw (← c.next_after.ensures) (search tests)

pub returns-else-b-tag : goal.returns-else-b-tag
unfolding covered_by is_bucket
returns-else-b-tag c = elim c.if-b-tag.either [ inl h ↦ search tests | inr h ↦ search tests ]
