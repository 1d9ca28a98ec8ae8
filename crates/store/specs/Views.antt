-- What the code's tests mean, and one value or bucket put. Assumes nothing.
use Rattle.std.specs.Prelude.{Bool, not, List}
use Rattle.lists.specs.Lists.{upsert}
use Rattle.tags.specs.Views.{of_global}
use Rattle.store_words.specs.Entries.{Value, Bucket}
use Rattle.store.specs.Store.{overwritten, raised, is_value, is_bucket, is_before, is_there, is_spent, of_action, bucket_of, covered_by, value_rules, bucket_rules}
use Rattle.store.specs.declared.ValueTest.{ValueTest}
use Rattle.store.specs.declared.ValueTest.TheVariants as VT
use Rattle.store.specs.declared.BucketTest.{BucketTest}
use Rattle.store.specs.declared.BucketTest.TheVariants as BT

abbrev pub value_test : ValueTest → Value → Bool
value_test (VT.At a t) = is_value a (of_global t)
value_test (VT.Before a t) = is_before a (of_global t)
value_test (VT.There a o) = is_there a o
value_test (VT.Of a) = of_action a
value_test (VT.Stray n) = λ v. not (value_rules n v)

abbrev pub bucket_test : BucketTest → Bucket → Bool
bucket_test (BT.At a o) = is_bucket a o
bucket_test (BT.Spent a t left) = is_spent a (of_global t) left
bucket_test (BT.Of a) = bucket_of a
bucket_test (BT.Covers a t) = covered_by a (of_global t)
bucket_test (BT.Stray n) = λ b. not (bucket_rules n b)

-- a value, a bucket, is under the first's key, and what the first makes of it
abbrev pub own_value : Value → Value → Bool
own_value v = is_value v.action v.tag

abbrev pub renewed_value : Value → Value → Value
renewed_value v = overwritten v.value

abbrev pub own_bucket : Bucket → Bucket → Bool
own_bucket b = is_bucket b.action b.offset

abbrev pub renewed_bucket : Bucket → Bucket → Bucket
renewed_bucket b = raised b.next

-- v in place of the value under its action and tag, or last
abbrev pub value_put : Value → List Value → List Value
value_put v l = upsert (is_value v.action v.tag) (overwritten v.value) v l

abbrev pub bucket_put : Bucket → List Bucket → List Bucket
bucket_put b l = upsert (is_bucket b.action b.offset) (raised b.next) b l
