-- `store_rules::all_covered` meets its contract: invariant: all have a bucket if those from i on have. Assumes nothing.
use mathlib.Core.Path.{◌≡◌}
use Prim.Native.Nat.{◌≤◌}
use lib.ListN.{take, drop}
use Rattle.lists.specs.Lists.{every}
use Rattle.store_words.specs.Words.{values_of, buckets_of}
use Rattle.store.specs.Store.{has_bucket}
use Rattle.store_rules.proofs.all_covered.Given as goal

abbrev pub invariant-loop-i : goal.invariant-loop-i
invariant-loop-i l = (l.i ≤ l.n) × (every (has_bucket (take l.m (buckets_of l.buckets))) (take l.n (values_of l.values)) ≡ every (has_bucket (take l.m (buckets_of l.buckets))) (drop l.i (take l.n (values_of l.values))))
