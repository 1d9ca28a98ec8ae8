-- `store_rules::keeps_rules` meets its contract: too many, or rule by rule. Assumes nothing.
use mathlib.Core.Bool.{not, ◌&&◌}
use mathlib.Core.Path.{◌≡◌, refl, ◌∙◌}
use lib.ListN.{take}
use Rattle.std.proofs.Common.{inl, inr}
use Rattle.lists.specs.Lists.{any, distinct}
use Rattle.store_words.specs.Words.{values_of, buckets_of}
use Rattle.store.specs.Views.{value_test, bucket_test, own_value, own_bucket}
use Rattle.store.specs.declared.ValueTest.TheVariants as VT
use Rattle.store.specs.declared.BucketTest.TheVariants as BT
use Rattle.store_rules.proofs.Laws.{rules_values, rules_buckets, and_then, and_else, asked}
use Rattle.store_rules.proofs.keeps_rules.Goals as goal
use Rattle.store_rules.proofs.keeps_rules.Goals.{Joined-differ, then-none, else-none, then-none-2, else-none-2, then-differ, else-differ}

pub returns-then-limit-held : goal.returns-then-limit-held
returns-then-limit-held c = elim c.then-limit-held.either [ inl h ↦ search rules_values | inr h ↦ search rules_buckets ]

-- the first four
four : (c : Joined-differ) → c.if-differ.value ≡
    (((not (any (value_test (VT.Stray c.args.actions)) (take c.args.held.values (values_of c.args.values.now))) &&
    not (any (bucket_test (BT.Stray c.args.actions)) (take c.args.held.buckets (buckets_of c.args.buckets.now)))) &&
    distinct (λ v w. own_value w v) (take c.args.held.values (values_of c.args.values.now))) &&
    distinct (λ a b. own_bucket b a) (take c.args.held.buckets (buckets_of c.args.buckets.now)))
four c =
    let two : c.if-none.value ≡ _ = elim c.if-none.branch [
      | then-none w ↦ and_then c.none.ensures w.if-none.true w.value-is w.none-then-none.ensures
      | else-none w ↦ and_else _ c.none.ensures w.if-none.false w.value-is
    ] in
    let three : c.if-none-2.value ≡ _ = elim c.if-none-2.branch [
      | then-none-2 w ↦ and_then two w.if-none-2.true w.value-is w.differ.ensures
      | else-none-2 w ↦ and_else _ two w.if-none-2.false w.value-is
    ] in
    elim c.if-differ.branch [
      | then-differ w ↦ and_then three w.if-differ.true w.value-is w.differ-then-differ.ensures
      | else-differ w ↦ and_else _ three w.if-differ.false w.value-is
    ]

pub returns-then-differ-2 : goal.returns-then-differ-2
returns-then-differ-2 c =
    and_then (four (goal.at.returns-then-differ-2 c).Joined-differ) c.if-differ-2.true refl c.all_covered.ensures ∙
    asked _ _ _ _ _ c.requires c.if-limit-held.false c.if-limit-held-2.false

pub returns-else-differ-2 : goal.returns-else-differ-2
returns-else-differ-2 c =
    and_else _ (four (goal.at.returns-else-differ-2 c).Joined-differ) c.if-differ-2.false refl ∙
    asked _ _ _ _ _ c.requires c.if-limit-held.false c.if-limit-held-2.false
