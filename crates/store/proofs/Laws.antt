-- The larger of two as the code's `max` has it, and a test of buckets as the definitions have it. Assumes nothing.
use mathlib.Core.Bool.{Bool, true, false, cond}
use mathlib.Core.Path.{◌≡◌, refl}
use Prim.Native.Nat.{ℕ, max}
use lib.Dec.{ltb, eqb}
use borrow.Author.Tests.{ltb-true, ltb-false}
use native.Mathlib.Omega.{arith}
use Rattle.store_words.specs.Entries.{Bucket}
use Rattle.store.specs.Store.{larger, raised, bucket_of}
use Rattle.store.specs.Views.{bucket_test}
use Rattle.store.specs.declared.BucketTest.{BucketTest}
use Rattle.store.specs.declared.BucketTest.TheVariants as BT

pub larger_is : (m n : ℕ) → max m n ≡ larger m n
unfolding larger
larger_is m n = go (ltb m n) refl
  where
    go : (b : Bool) → ltb m n ≡ b → max m n ≡ cond b n m
    go true e = let h = ltb-true m n e in omega arith
    go false e = let h = ltb-false m n e in omega arith

pub raise_is : (b : Bucket) (n : ℕ) {k : ℕ} → k ≡ max b.next n → record { action = b.action; offset = b.offset; next = k } ≡ raised n b
raise_is b n e = rw (e, larger_is b.next n)

-- the buckets of an action
pub bucket_of_lem : (t : BucketTest) (b : Bucket) {r : Bool} {a : ℕ} → t ≡ BT.Of a → r ≡ eqb b.action a → r ≡ bucket_test t b
unfolding bucket_of
bucket_of_lem t b e h = rw e h
