-- Every accepted call keeps the state rules that speak of values and buckets. Assumes nothing.
use mathlib.Core.Bool.{Bool, true, false, not, ◌&&◌, ◌||◌}
use mathlib.Core.Path.{◌≡◌, refl, ap, ◌∙◌}
use Prim.Native.Nat.{ℕ, ◌+◌, ◌≤◌}
use native.Mathlib.Omega.{arith}
use lib.Dec.{ltb, leb, eqb}
use lib.ListN.{length}
use borrow.Author.Tests.{ltb-true, ltb-false, leb-true, le-leb, eqb-true, eq-eqb}
use Rattle.lists.specs.Tests.{and_left, and_right, and_both}
use Rattle.lists.specs.Lists.{lose, any, every, distinct, upsert, lose_shorter}
use Rattle.lists.specs.Walk.{Result, done, refused}
use Rattle.refusals.specs.declared.Refusal.{Refusal}
use Rattle.tags.specs.Tags.{Tag, at, max_microstep, max_offset, within, same_tag, earlier}
use Rattle.store_words.specs.Entries.{Value, Bucket}
use Rattle.store.specs.Store.{Store, empty_store, is_value, is_bucket, is_before, is_there, is_spent, of_action, bucket_of, following, larger, raised, overwritten, lacks, pushed, Found, nothing}
use Rattle.store.specs.Store.{found, value_in, taken, push_found, moved, cleared, cleared_before, covered_by, has_bucket, value_rules, bucket_rules, same_value, same_bucket, store_rules}
use Rattle.lists.specs.Changes.{no_way, or_no_left, or_no_right, not_no, by_test, either_is, any_upsert_more, any_upsert_new, every_upsert}
use Rattle.lists.specs.Changes.{distinct_upsert, room_upsert, any_lose_not, distinct_lose, every_imp, every_two, every_lose, lost_none, any_each}

not_done : {A : Type 0} {r : Refusal} {a : A} → refused r ≡ done a → ⊥
not_done e = let z : ◌≡◌ {A = ℕ} 0 1 = cc in omega arith

done_is : {A : Type 0} {a b : A} → ◌≡◌ {A = Result Refusal A} (done a) (done b) → a ≡ b
done_is e = cc

-- ---- numbers

leb_trans : (a b c : ℕ) → leb a b ≡ true → leb b c ≡ true → leb a c ≡ true
leb_trans a b c h k = le-leb a c (omega (arith, leb-true a b h, leb-true b c k))

larger_left : (m n : ℕ) → leb m (larger m n) ≡ true
unfolding larger
larger_left m n = by_test (ltb m n) (λ e. rw e (le-leb m n (omega (arith, ltb-true m n e)))) (λ e. rw e (le-leb m m (omega arith)))

larger_right : (m n : ℕ) → leb n (larger m n) ≡ true
unfolding larger
larger_right m n = by_test (ltb m n) (λ e. rw e (le-leb n n (omega arith))) (λ e. rw e (le-leb n m (omega (arith, ltb-false m n e))))

within_larger : (o m n : ℕ) → within (at o m) ≡ true → within (at o n) ≡ true → within (at o (larger m n)) ≡ true
unfolding larger
within_larger o m n h k = by_test (ltb m n) (λ e. rw e k) (λ e. rw e h)

within_mixed : (t u : Tag) → within t ≡ true → within u ≡ true → within (at t.offset u.microstep) ≡ true
unfolding within
within_mixed t u h k = and_both (leb t.offset max_offset) _ (and_left (leb t.offset max_offset) _ h) (and_right (leb u.offset max_offset) _ k)

within_following : (t : Tag) → within t ≡ true → within (at t.offset (following t.microstep)) ≡ true
unfolding following within
within_following t h =
    and_both (leb t.offset max_offset) _ (and_left (leb t.offset max_offset) _ h)
    (by_test (ltb t.microstep max_microstep)
    (λ e. rw e (le-leb (t.microstep + 1) max_microstep (omega (arith, ltb-true t.microstep max_microstep e)))) (λ e. rw e (le-leb max_microstep max_microstep (omega arith))))

-- ---- the rules of the store

pub record Kept (limit n : ℕ) (s : Store) : Type 0 where
  pub few_values : length s.values ≤ limit
  pub few_buckets : length s.buckets ≤ limit
  pub values : every (value_rules n) s.values ≡ true
  pub buckets : every (bucket_rules n) s.buckets ≡ true
  pub one_value : distinct same_value s.values ≡ true
  pub one_bucket : distinct same_bucket s.buckets ≡ true
  pub has : every (has_bucket s.buckets) s.values ≡ true

pub pushed_kept : (limit n : ℕ) (s : Store) (a : ℕ) (t : Tag) (v : ℕ) (u : Store) → Kept limit n s → ltb a n ≡ true → within t ≡ true → pushed limit s a t v ≡ done u → Kept limit n u
unfolding pushed lacks value_rules bucket_rules has_bucket covered_by is_bucket same_value same_bucket is_value
pushed_kept limit n s a t v u h k w d =
    either_is (lacks limit (is_value a t) s.values || lacks limit (is_bucket a t.offset) s.buckets) d (λ e q. absurd (not_done q)) λ e q.
    rw (← (done_is q))
    (record {
      few_values = room_upsert (is_value a t) (overwritten v) value limit s.values h.few_values (or_no_left (lacks limit (is_value a t) s.values) _ e);
      few_buckets = room_upsert (is_bucket a t.offset) (raised m) bucket limit s.buckets h.few_buckets (or_no_right (lacks limit (is_value a t) s.values) _ e);
      values = every_upsert (is_value a t) (overwritten v) value (value_rules n) (and_both (ltb a n) (within t) k w) (λ b x. x) s.values h.values;
      buckets =
          every_upsert (is_bucket a t.offset) (raised m) bucket (bucket_rules n) (and_both (ltb a n) _ k (within_following t w))
          (λ b x. and_both (ltb b.action n) _ (and_left (ltb b.action n) _ x)
          (within_larger b.offset b.next m (and_right (ltb b.action n) _ x)
          (within_mixed (at b.offset b.next) (at t.offset m) (and_right (ltb b.action n) _ x) (within_following t w))))
          s.buckets h.buckets;
      one_value = distinct_upsert (is_value a t) (overwritten v) value same_value (λ a b. refl) (λ a b. refl) (λ a. refl) s.values h.one_value;
      one_bucket = distinct_upsert (is_bucket a t.offset) (raised m) bucket same_bucket (λ a b. refl) (λ a b. refl) (λ a. refl) s.buckets h.one_bucket;
      has =
          every_upsert (is_value a t) (overwritten v) value (has_bucket (upsert (is_bucket a t.offset) (raised m) bucket s.buckets))
          (any_upsert_new (is_bucket a t.offset) (raised m) bucket (λ b. is_bucket a t.offset b && leb m b.next)
          (and_both (is_bucket a t.offset bucket) _ (and_both (eqb a a) _ (eq-eqb a a refl) (eq-eqb t.offset t.offset refl)) (le-leb m m (omega arith)))
          (λ b y. and_both (is_bucket a t.offset b) _ y (larger_right b.next m)) s.buckets)
          (λ b x. x) s.values
          (every_imp (has_bucket s.buckets) (has_bucket (upsert (is_bucket a t.offset) (raised m) bucket s.buckets))
          (λ x y. any_upsert_more (is_bucket a t.offset) (raised m) bucket (λ b. is_bucket x.action x.tag.offset b && leb (following x.tag.microstep) b.next)
          (λ b z. and_both (is_bucket x.action x.tag.offset b) _ (and_left (is_bucket x.action x.tag.offset b) _ z)
          (leb_trans (following x.tag.microstep) b.next _ (and_right (is_bucket x.action x.tag.offset b) _ z) (larger_left b.next m)))
          s.buckets y) s.values h.has);
    })
  where
    m : ℕ
    m = following t.microstep

    value : Value
    value = record { action = a; tag = t; value = v }

    bucket : Bucket
    bucket = record { action = a; offset = t.offset; next = m }

-- some values go, the buckets stay
values_lost : (limit n : ℕ) (s : Store) (r : Value → Bool) → Kept limit n s → Kept limit n (record { values = lose r s.values; buckets = s.buckets })
values_lost limit n s r h =
    record {
      few_values = omega (arith, lose_shorter r s.values, h.few_values);
      few_buckets = h.few_buckets;
      values = every_lose (value_rules n) r s.values h.values;
      buckets = h.buckets;
      one_value = distinct_lose r same_value s.values h.one_value;
      one_bucket = h.one_bucket;
      has = every_lose (has_bucket s.buckets) r s.values h.has;
    }

-- some buckets go, none of which a value needs
buckets_lost : (limit n : ℕ) (s : Store) (r : Bucket → Bool) → Kept limit n s
    → every (λ v. has_bucket (lose r s.buckets) v) s.values ≡ true → Kept limit n (record { values = s.values; buckets = lose r s.buckets })
buckets_lost limit n s r h k =
    record {
      few_values = h.few_values;
      few_buckets = omega (arith, lose_shorter r s.buckets, h.few_buckets);
      values = h.values;
      buckets = every_lose (bucket_rules n) r s.buckets h.buckets;
      one_value = h.one_value;
      one_bucket = distinct_lose r same_bucket s.buckets h.one_bucket;
      has = k;
    }

pub taken_kept : (limit n : ℕ) (s : Store) (a : ℕ) (t : Tag) → Kept limit n s → Kept limit n (taken s a t)
unfolding taken
taken_kept limit n s a t h = values_lost limit n s (is_value a t) h

pub moved_kept : (limit n : ℕ) (s : Store) (a : ℕ) (t u : Tag) (w : Store) → Kept limit n s → ltb a n ≡ true → within u ≡ true → moved limit s a t u ≡ done w → Kept limit n w
unfolding moved
moved_kept limit n s a t u w h k x d =
    either_is (same_tag t u) d (λ e q. rw (← (done_is q)) h) (λ e q. go (value_in a t s.values) q)
  where
    go : (f : Found) → push_found limit s (taken s a t) a u f ≡ done w → Kept limit n w
    go nothing q = rw (← (done_is q)) h
    go (found v) q = pushed_kept limit n (taken s a t) a u v w (taken_kept limit n s a t h) k x q

pub cleared_kept : (limit n : ℕ) (s : Store) (a : ℕ) → Kept limit n s → Kept limit n (cleared s a)
unfolding cleared has_bucket covered_by is_bucket of_action bucket_of
cleared_kept limit n s a h =
    buckets_lost limit n (record { values = lose (λ v. eqb v.action a) s.values; buckets = s.buckets }) (λ b. eqb b.action a) (values_lost limit n s (λ v. eqb v.action a) h)
    (every_two (λ v. not (eqb v.action a)) (has_bucket s.buckets) (has_bucket (lose (λ b. eqb b.action a) s.buckets))
    (λ v x y. any_lose_not (λ b. eqb b.action a) (λ b. is_bucket v.action v.tag.offset b && leb (following v.tag.microstep) b.next)
    (λ b z. ap (λ i. eqb i a) (eqb-true b.action v.action (and_left _ _ (and_left (is_bucket v.action v.tag.offset b) _ z))) ∙ not_no (eqb v.action a) x) s.buckets y)
    (lose (λ v. eqb v.action a) s.values) (lost_none (λ v. eqb v.action a) s.values) (every_lose (has_bucket s.buckets) (λ v. eqb v.action a) s.values h.has))

-- a bucket that a value still needs is not cleared
stays_needed : (A E L M left : Bool) → not (A && (L || (E && M))) ≡ true → (not (A && E) || left) ≡ true → (A && (L || (E && not left))) ≡ false
stays_needed false E L M left h k = refl
stays_needed true E true M left h k = no_way h
stays_needed true false false M left h k = refl
stays_needed true true false M true h k = refl
stays_needed true true false M false h k = no_way k

pub cleared_before_kept : (limit n : ℕ) (s : Store) (a : ℕ) (t : Tag) → Kept limit n s → Kept limit n (cleared_before s a t)
unfolding cleared_before has_bucket covered_by is_bucket is_before is_there is_spent earlier
cleared_before_kept limit n s a t h =
    let gone : Value → Bool = λ v. eqb v.action a && earlier v.tag t in
    let there : Value → Bool = λ v. eqb v.action a && eqb v.tag.offset t.offset in
    let vs = lose gone s.values in
    let left = any there vs in
    let lost : Bucket → Bool = λ b. eqb b.action a && (ltb b.offset t.offset || (eqb b.offset t.offset && not left)) in
    buckets_lost limit n (record { values = vs; buckets = s.buckets }) lost (values_lost limit n s gone h)
    (every_two (λ v. not (gone v) && (not (there v) || left)) (has_bucket s.buckets) (has_bucket (lose lost s.buckets))
    (λ v x y. any_lose_not lost (λ b. is_bucket v.action v.tag.offset b && leb (following v.tag.microstep) b.next)
    (λ b z.
    let i = and_left (is_bucket v.action v.tag.offset b) _ z in
    let p = eqb-true b.action v.action (and_left (eqb b.action v.action) _ i) in
    let q = eqb-true b.offset v.tag.offset (and_right (eqb b.action v.action) _ i) in
    rw (p, q) (stays_needed (eqb v.action a) (eqb v.tag.offset t.offset) (ltb v.tag.offset t.offset) (ltb v.tag.microstep t.microstep) left
    (and_left (not (gone v)) _ x) (and_right (not (gone v)) _ x)))
    s.buckets y)
    vs
    (every_two (λ v. not (gone v)) (λ v. not (there v) || left) (λ v. not (gone v) && (not (there v) || left)) (λ v x y. and_both (not (gone v)) _ x y) vs
    (lost_none gone s.values) (any_each there vs left (λ x. x)))
    (every_lose (has_bucket s.buckets) gone s.values h.has))

-- ---- the one test, and its parts

module _ (limit n : ℕ) (s : Store) where
  pub rules_kept : store_rules limit n s ≡ true → Kept limit n s
  unfolding store_rules
  rules_kept e =
      let e1 = and_right (leb (length s.values) limit) _ e in
      let e2 = and_right (leb (length s.buckets) limit) _ e1 in
      let e3 = and_right (every (value_rules n) s.values) _ e2 in
      let e4 = and_right (every (bucket_rules n) s.buckets) _ e3 in
      let e5 = and_right (distinct same_value s.values) _ e4 in
      record {
        few_values = leb-true _ _ (and_left (leb (length s.values) limit) _ e);
        few_buckets = leb-true _ _ (and_left (leb (length s.buckets) limit) _ e1);
        values = and_left (every (value_rules n) s.values) _ e2;
        buckets = and_left (every (bucket_rules n) s.buckets) _ e3;
        one_value = and_left (distinct same_value s.values) _ e4;
        one_bucket = and_left (distinct same_bucket s.buckets) _ e5;
        has = and_right (distinct same_bucket s.buckets) _ e5;
      }

  pub kept_rules : Kept limit n s → store_rules limit n s ≡ true
  unfolding store_rules
  kept_rules h =
      simp (le-leb (length s.values) limit h.few_values, le-leb (length s.buckets) limit h.few_buckets, h.values, h.buckets, h.one_value, h.one_bucket, h.has)

-- nothing held keeps every rule
pub empty_kept : (limit n : ℕ) → store_rules limit n empty_store ≡ true
unfolding store_rules every distinct
empty_kept limit n = simp (le-leb 0 limit (omega arith))
