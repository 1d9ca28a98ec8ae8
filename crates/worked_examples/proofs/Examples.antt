-- Document 01's worked examples m1 to m11 and s1 to s3 hold: one proof over the whole table, which antt computes. Assumes nothing.
use Rattle.std.specs.Prelude.{◌≡◌, refl}
use Rattle.std.proofs.Common.{ap, ◌∙◌, sym}
use mathlib.Core.List.{List, ◌∷◌, map, Memᴰ}
use Rattle.lists.specs.Lists.{any, lose, upsert}
use Rattle.tags.specs.Tags as tag
use Rattle.tags.specs.Tags.{within, within_clock, same_tag, earlier, delayed, shifted, checked, global_to_local, local_to_global}
use Rattle.store.specs.Store.{is_value, is_bucket, is_before, is_there, is_spent, following, larger, lacks, pushed, next_in, next_microstep, value_in, taken, cleared_before, moved}
use Rattle.value_store.specs.Calls.{perform}
use Rattle.worked_examples.specs.Examples.{Row, table, performed, answer_of}

-- ---- what the definitions answer

computed : map (λ (r : Row). answer_of r.asked) table ≡ map (λ (r : Row). r.said) table
unfolding table performed perform pushed lacks any lose upsert next_microstep next_in value_in taken cleared_before moved is_value is_bucket is_before is_there is_spent following larger
    global_to_local local_to_global tag.to_local tag.to_global checked shifted delayed earlier same_tag within within_clock
computed = refl

-- two maps that agree on a list agree at each of its elements
module _ {A B : Type 0} (f g : A → B) where
  heads : {a b : B} {x y : List B} → a ∷ x ≡ b ∷ y → a ≡ b
  heads e = cc

  tails : {a b : B} {x y : List B} → a ∷ x ≡ b ∷ y → x ≡ y
  tails e = cc

  each : (x : A) {xs : List A} → map f xs ≡ map g xs → Memᴰ x xs → f x ≡ g x
  each x e (Memᴰ.head {x = y} {xs = ys} q) = ap f q ∙ (heads e ∙ ap g (sym q))
  each x e (Memᴰ.tail {x = y} {xs = ys} m) = each x (tails e) m

-- every row of the table is as the definitions say
pub examples_hold : (r : Row) → Memᴰ r table → answer_of r.asked ≡ r.said
examples_hold r m = each (λ (r : Row). answer_of r.asked) (λ (r : Row). r.said) r computed m
