-- The store's rules from what the loops over rows promise. Assumes nothing.
use mathlib.Core.Bool.{Bool, true, false, not, ◌&&◌, and_assoc}
use mathlib.Core.Path.{◌≡◌, refl, ap, ◌∙◌, sym}
use mathlib.Core.List.{List, [], ◌∷◌}
use Prim.Native.Nat.{ℕ, ◌+◌, ◌-◌, ◌<◌, ◌≤◌}
use native.Mathlib.Omega.{arith}
use lib.Dec.{ltb, leb}
use borrow.Author.Tests.{le-leb, lt-leb, leb-true, leb-false}
use lib.ListN.{length, take, drop, get_or, set, length-drop}
use lib.Seq.{get_or-take}
use Rattle.lists.specs.Lists.{any, every, distinct, any_at}
use Rattle.lists.specs.Held.{things_of}
use Rattle.store_words.specs.Entries.{Value, Bucket, room_for_entries, blank_value, blank_bucket}
use Rattle.store_words.specs.Words.{values_of, buckets_of, decode_value, encode_value, value_words, long_value, decode_bucket, encode_bucket, bucket_words, long_bucket}
use Rattle.lists.specs.Loops.{place, place_any, front_long, test_on, test_fails, test_all}
use Rattle.store.specs.Store.{same_value, same_bucket, has_bucket, covered_by, value_rules, bucket_rules, store_rules}
use Rattle.store_calls.specs.Lent.{store_of}
use Rattle.store_calls.specs.declared.Counts.{Counts}
use Rattle.lists.specs.Marks.{any_same, every_not, place_not, marked, marked_new, marked_one, differ_one, differ_not}
use Rattle.store.specs.Layout.{Layout, things_in}
use Rattle.store.specs.Views.{value_test, bucket_test, own_value, own_bucket}
use Rattle.store.specs.declared.ValueTest.TheVariants as VT
use Rattle.store.specs.declared.BucketTest.TheVariants as BT
use Rattle.store_rules.specs.Slots.{Slots}
use Rattle.store_rules.specs.Rules.{slots, counted_rules}

-- ---- none of the rows that are left has the key

module _ {A : Type 0} (decode : List ℕ → A) (encode : A → List ℕ) (w k : ℕ) (long : (a : A) → length (encode a) ≡ w) (p q : A → Bool) (like : (a : A) → p a ≡ q a) (ws : List ℕ) (i n : ℕ) where
  abbrev rest : List A
  rest = drop i (take n (things_of decode encode w k long ws))

  shifted : (x : ℕ) → i ≤ n → leb n (i + x) ≡ leb (n - i) x
  shifted x h = go (leb (n - i) x) refl
    where
      go : (b : Bool) → leb (n - i) x ≡ b → leb n (i + x) ≡ b
      go true y = le-leb n (i + x) (let z = leb-true (n - i) x y in omega arith)
      go false y = lt-leb n (i + x) (let z = leb-false (n - i) x y in omega arith)

  none_left : {r : ℕ} → i ≤ n → n ≤ k → r ≡ i + place q rest → leb n r ≡ not (any p rest)
  none_left h m e =
      let l : length rest ≡ n - i = length-drop i (take n (things_of decode encode w k long ws)) ∙ ap (λ x. x - i) (front_long decode encode w k long ws n m) in
      rw (any_same p q like rest, place_not q rest, l, e) (shifted (place q rest) h)

module _ {E A : Type 0} (of : E → A) (own : A → A → Bool) (slot : E → ℕ) (s : Slots of own slot) (y : Layout A) (ws : List ℕ) (n i : ℕ) (e : E) where
  abbrev all : List A
  all = take n (things_in y ws)

  abbrev like : A → A → Bool
  like a b = own b a

  module _ (u : i ≤ n) (f : n ≤ room_for_entries) where
    pub counted_from : {r : ℕ} → r ≡ i + place (own (of e)) (drop i all) → leb n r ≡ not (any (like (of e)) (drop i all))
    counted_from q = none_left y.decode y.encode y.words room_for_entries y.long (like (of e)) (own (of e)) (s.turns (of e)) ws i n u f q

    pub alone : {r : ℕ} → r ≡ i + place (own (of e)) (drop i all) → n ≤ r → true ≡ not (any (like (of e)) (drop i all))
    alone {r} q k = sym (le-leb n r k) ∙ counted_from q

    pub unmarked : (seen : List Bool) {h : ℕ} → h ≡ slot e → marked s.by seen (drop i all) ≡ true → get_or seen h false ≡ false → true ≡ not (any (like (of e)) (drop i all))
    unmarked seen q m x = ap not (sym (marked_new s.by like s.fits seen (of e) (drop i all) m (rw (q ∙ s.tells e) at x)))

    module _ (h : 0 < i) (r : of e ≡ get_or (things_in y ws) (i - 1) y.blank) where
      pub mark_more : (seen : List Bool) {k : ℕ} → k ≡ slot e → k < slots → length seen ≡ slots → marked s.by seen (drop i all) ≡ true → marked s.by (set seen k true) (drop (i - 1) all) ≡ true
      mark_more seen {k} q b l m = marked_one y.decode y.encode y.words room_for_entries y.long ws n i y.blank (of e) h u f r s.by seen k slots (q ∙ s.tells e) b l m

      pub differ_more : true ≡ not (any (like (of e)) (drop i all)) → distinct like (drop i all) ≡ true → distinct like (drop (i - 1) all) ≡ true
      differ_more x m = differ_one y.decode y.encode y.words room_for_entries y.long ws n i y.blank (of e) h u f r like true x m refl

      pub differ_less : {q : ℕ} → q ≡ i + place (own (of e)) (drop i all) → q < n → false ≡ distinct like all
      differ_less {q} z k = differ_not y.decode y.encode y.words room_for_entries y.long ws n i y.blank (of e) h u f r like false (sym (lt-leb n q k) ∙ counted_from z) refl

-- ---- each value has its bucket

module _ (bs : List ℕ) (n : ℕ) (m : n ≤ room_for_entries) (v : Value) where
  pub noted_there : {j : ℕ} {b : Bucket} {r : Bool} → j < n → b ≡ get_or (buckets_of bs) j blank_bucket → r ≡ covered_by v.action v.tag b → r ≡ true → has_bucket (take n (buckets_of bs)) v ≡ true
  unfolding has_bucket
  noted_there {j} h e q y =
      any_at (covered_by v.action v.tag) (take n (buckets_of bs)) j blank_bucket (rw (front_long decode_bucket encode_bucket bucket_words room_for_entries long_bucket bs n m) h)
      (rw (get_or-take n (buckets_of bs) j blank_bucket h, ← e) (sym q ∙ y))

  pub found_there : {j : ℕ} {r : Bool} → j ≡ place (covered_by v.action v.tag) (take n (buckets_of bs)) → r ≡ ltb j n → r ≡ has_bucket (take n (buckets_of bs)) v
  unfolding has_bucket
  found_there e q = q ∙ rw (e, place_any (covered_by v.action v.tag) (take n (buckets_of bs)), front_long decode_bucket encode_bucket bucket_words room_for_entries long_bucket bs n m)

-- ---- every one passes

pub none_passes : {A : Type 0} (y : Layout A) (p : A → Bool) (ws : List ℕ) (n : ℕ) {r : ℕ} → n ≤ room_for_entries → r ≡ place p (take n (things_in y ws)) → leb n r ≡ not (any p (take n (things_in y ws)))
none_passes y p ws n f e = rw (place_not p (take n (things_in y ws)), front_long y.decode y.encode y.words room_for_entries y.long ws n f, e)

-- one more of those that must pass

every_cons : {A : Type 0} (p : A → Bool) (a : A) (l : List A) → every p (a ∷ l) ≡ (p a && every p l)
unfolding every
every_cons p a l = refl

every_none : {A : Type 0} (p : A → Bool) → every p [] ≡ true
unfolding every
every_none p = refl

module _ (p : Value → Bool) (vs : List ℕ) (n i : ℕ) where
  module _ (v : Value) (b : Bool) (h : i < n) (m : n ≤ room_for_entries) (r : v ≡ get_or (values_of vs) i blank_value) (e : b ≡ p v) where
    pub every_on : {s : Bool} → b ≡ true → s ≡ every p (drop i (take n (values_of vs))) → s ≡ every p (drop (i + 1) (take n (values_of vs)))
    every_on y q = test_on decode_value encode_value value_words room_for_entries long_value (every p) (λ a l. p a) (every_cons p) (every_none p) vs n i blank_value v b h m r e y q

    pub every_fails : {s : Bool} → b ≡ false → s ≡ every p (drop i (take n (values_of vs))) → false ≡ s
    every_fails y q = test_fails decode_value encode_value value_words room_for_entries long_value (every p) (λ a l. p a) (every_cons p) (every_none p) vs n i blank_value v b h m r e y q

  pub every_all : {s : Bool} → i ≤ n → n ≤ i → s ≡ every p (drop i (take n (values_of vs))) → true ≡ s
  every_all h k q = test_all decode_value encode_value value_words room_for_entries long_value (every p) (λ a l. p a) (every_cons p) (every_none p) vs n i h k q

-- ---- all the rules

-- where the second is asked only if the first holds
pub and_then : {p v r a b : Bool} → p ≡ a → p ≡ true → v ≡ r → r ≡ b → v ≡ (a && b)
and_then e h q f = q ∙ (f ∙ simp (sym e ∙ h))

pub and_else : {p v a : Bool} (b : Bool) → p ≡ a → p ≡ false → v ≡ p → v ≡ (a && b)
and_else b e h q = q ∙ (h ∙ simp (sym e ∙ h))

module _ (limit actions : ℕ) (vs bs : List ℕ) (n : Counts) (few : limit ≤ room_for_entries) where
  abbrev here : Bool
  here = counted_rules limit actions n.values n.buckets (store_of vs bs n)

  pub rules_values : limit < n.values → false ≡ here
  unfolding counted_rules
  rules_values h = simp (lt-leb n.values limit h)

  module _ (h : n.values ≤ limit) where
    pub rules_buckets : limit < n.buckets → false ≡ here
    unfolding counted_rules
    rules_buckets k = simp (le-leb n.values limit h, lt-leb n.buckets limit k)

    module _ (k : n.buckets ≤ limit) where
      counted :
          here ≡ (every (value_rules actions) (take n.values (values_of vs)) && (every (bucket_rules actions) (take n.buckets (buckets_of bs)) &&
          (distinct same_value (take n.values (values_of vs)) && (distinct same_bucket (take n.buckets (buckets_of bs)) &&
          every (has_bucket (take n.buckets (buckets_of bs))) (take n.values (values_of vs))))))
      unfolding counted_rules store_rules
      counted =
          simp (
            le-leb n.values limit h,
            le-leb n.buckets limit k,
            front_long decode_value encode_value value_words room_for_entries long_value vs n.values (omega arith),
            front_long decode_bucket encode_bucket bucket_words room_for_entries long_bucket bs n.buckets (omega arith),
          )

      -- as the code asks them, one after the other
      pub asked :
          (((not (any (value_test (VT.Stray actions)) (take n.values (values_of vs))) && not (any (bucket_test (BT.Stray actions)) (take n.buckets (buckets_of bs)))) &&
          distinct (λ v w. own_value w v) (take n.values (values_of vs))) && distinct (λ b c. own_bucket c b) (take n.buckets (buckets_of bs))) &&
          every (has_bucket (take n.buckets (buckets_of bs))) (take n.values (values_of vs)) ≡ here
      unfolding same_value same_bucket
      asked =
          rw counted
          (simp (← (every_not (value_rules actions) (take n.values (values_of vs))), ← (every_not (bucket_rules actions) (take n.buckets (buckets_of bs))), and_assoc))
