-- What each call leaves in the rows that it is lent, from what its parts promise. Assumes nothing.
use mathlib.Core.Bool.{Bool, true, false, cond}
use mathlib.Core.Path.{◌≡◌, refl, ap, ◌∙◌, sym}
use mathlib.Core.List.{List, [], ◌∷◌}
use Prim.Native.Nat.{ℕ, suc, ◌<◌, ◌≤◌, max}
use native.Mathlib.Omega.{arith}
use lib.Dec.{ltb, leb}
use borrow.Author.Tests.{le-leb, lt-leb}
use lib.ListN.{length, take, get_or}
use lib.Seq.{get_or-take}
use Rattle.std.proofs.Math.Bool.{or-true}
use Rattle.lists.specs.Lists.{lose, any, lose_shorter}
use Rattle.lists.specs.Lay.{lay, lay_same, lay_take, lay_lay}
use Rattle.lists.specs.Held.{things_length}
use Rattle.lists.specs.Walk.{done, refused}
use Rattle.refusals.specs.declared.Refusal.TheVariants as R
use Rattle.tags.specs.Tags.{Tag, same_tag}
use Rattle.store_words.specs.Entries.{Value, Bucket, room_for_entries, blank_value, blank_bucket}
use Rattle.store_words.specs.Words.{values_of, buckets_of, HeldValues, HeldBuckets, decode_value, encode_value, value_words, long_value, decode_bucket, encode_bucket, bucket_words, long_bucket}
use Rattle.lists.specs.Loops.{place, place_any, place_full, place_short, lose_none, lose_fewer, front_long}
use Rattle.store.specs.Store.{Store, is_value, is_bucket, is_there, is_spent, is_before, following, lacks, pushed, Found}
use Rattle.store.specs.Store.{nothing, found, next_in, value_in, at_least, unless_last, taken, cleared_before, moved}
use Rattle.store.specs.Views.{value_put, bucket_put}
use Rattle.store.proofs.Laws.{larger_is}
use Rattle.store_calls.specs.Lent.{store_of, Lent, Laid, Did, overfull}
use Rattle.store_calls.specs.declared.Counts.{Counts}
use Rattle.store_calls.specs.declared.Changed.{Changed}
use Rattle.std.specs.Prelude.{Ok}

values_long : (vs : List ℕ) (n : ℕ) → n ≤ room_for_entries → length (take n (values_of vs)) ≡ n
values_long vs n h = front_long decode_value encode_value value_words room_for_entries long_value vs n h

buckets_long : (bs : List ℕ) (n : ℕ) → n ≤ room_for_entries → length (take n (buckets_of bs)) ≡ n
buckets_long bs n h = front_long decode_bucket encode_bucket bucket_words room_for_entries long_bucket bs n h

-- ---- what the first that passes has

module _ {A : Type 0} (p : A → Bool) (f : A → ℕ) (g : List A → Found) (none : g [] ≡ nothing) (cons : (a : A) (l : List A) → g (a ∷ l) ≡ cond (p a) (found (f a)) (g l)) where
  pick_none : (l : List A) → length l ≤ place p l → g l ≡ nothing
  unfolding place
  pick_none [] h = none
  pick_none (a ∷ l) h = cons a l ∙ go (p a) h (pick_none l)
    where
      go : (b : Bool) → length (a ∷ l) ≤ cond b 0 (suc (place p l)) → (length l ≤ place p l → g l ≡ nothing) → cond b (found (f a)) (g l) ≡ nothing
      go true h k = absurd (omega arith)
      go false h k = k (omega arith)

  pick_some : (l : List A) (d : A) → place p l < length l → g l ≡ found (f (get_or l (place p l) d))
  unfolding place
  pick_some [] d h = absurd (omega arith)
  pick_some (a ∷ l) d h = cons a l ∙ go (p a) h (pick_some l d)
    where
      go : (b : Bool) → cond b 0 (suc (place p l)) < length (a ∷ l) → (place p l < length l → g l ≡ found (f (get_or l (place p l) d))) →
          cond b (found (f a)) (g l) ≡ found (f (get_or (a ∷ l) (cond b 0 (suc (place p l))) d))
      go true h k = refl
      go false h k = k (omega arith)

module _ (vs : List ℕ) (n : ℕ) (few : n ≤ room_for_entries) (a : ℕ) (t : Tag) (i : ℕ) (e : i ≡ place (is_value a t) (take n (values_of vs))) where
  pub no_value : n ≤ i → nothing ≡ value_in a t (take n (values_of vs))
  unfolding value_in
  no_value h = sym (pick_none (is_value a t) (λ v. v.value) (value_in a t) refl (λ v l. refl) (take n (values_of vs)) (rw (values_long vs n few, ← e) h))

  pub this_value : (v : Value) {x : Found} → i < n → v ≡ get_or (values_of vs) i blank_value → x ≡ found v.value → x ≡ value_in a t (take n (values_of vs))
  unfolding value_in
  this_value v h r q =
      q ∙ sym (pick_some (is_value a t) (λ v. v.value) (value_in a t) refl (λ v l. refl) (take n (values_of vs)) blank_value (rw (values_long vs n few, ← e) h) ∙
      rw (← e, get_or-take n (values_of vs) i blank_value h, r))

module _ (bs : List ℕ) (n : ℕ) (few : n ≤ room_for_entries) (a o least : ℕ) (j : ℕ) (e : j ≡ place (is_bucket a o) (take n (buckets_of bs))) {r : Found} where
  pub no_bucket : n ≤ j → r ≡ unless_last least → r ≡ at_least (next_in a o (take n (buckets_of bs))) least
  unfolding next_in
  no_bucket h q =
      rw (pick_none (is_bucket a o) (λ b. b.next) (next_in a o) refl (λ b l. refl) (take n (buckets_of bs)) (rw (buckets_long bs n few, ← e) h)) q

  pub this_bucket : (b : Bucket) {k : ℕ} → j < n → b ≡ get_or (buckets_of bs) j blank_bucket → k ≡ max b.next least → r ≡ unless_last k → r ≡ at_least (next_in a o (take n (buckets_of bs))) least
  unfolding next_in
  this_bucket b h y z q =
      rw (
        pick_some (is_bucket a o) (λ b. b.next) (next_in a o) refl (λ b l. refl) (take n (buckets_of bs)) blank_bucket (rw (buckets_long bs n few, ← e) h),
        ← e,
        get_or-take n (buckets_of bs) j blank_bucket h,
        ← y,
        ← (larger_is b.next least),
        ← z,
      ) q

-- a new bucket is needed, and as many are held as may be
push_over : (limit : ℕ) (s : Store) (a : ℕ) (t : Tag) (v : ℕ) → lacks limit (is_bucket a t.offset) s.buckets ≡ true → pushed limit s a t v ≡ refused R.Held
unfolding pushed
push_over limit s a t v e = simp (e, or-true)

-- ---- the rows

-- no more are held than there is room for
module _ {limit : ℕ} {vs bs : List ℕ} {n : Counts} (lent : Lent limit vs bs n) where
  values_fit : n.values ≤ room_for_entries
  values_fit = omega (arith, lent.few_values, lent.room)

  buckets_fit : n.buckets ≤ room_for_entries
  buckets_fit = omega (arith, lent.few_buckets, lent.room)

module _ {limit : ℕ} (vs bs : List ℕ) (n : Counts) (lent : Lent limit vs bs n) where
  pub laid_same : Laid vs bs n (store_of vs bs n) vs bs n
  laid_same =
      record {
        values = record { whole = lent.values; things = sym (lay_same blank_value (values_of vs) n.values) };
        buckets = record { whole = lent.buckets; things = sym (lay_same blank_bucket (buckets_of bs) n.buckets) };
        some_values = sym (values_long vs n.values (values_fit lent));
        some_buckets = sym (buckets_long bs n.buckets (buckets_fit lent));
      }

  -- ---- push

  module _ (a : ℕ) (t : Tag) (v i j : ℕ) (ei : i ≡ place (is_value a t) (take n.values (values_of vs))) (ej : j ≡ place (is_bucket a t.offset) (take n.buckets (buckets_of bs))) where
    value_full : lacks limit (is_value a t) (take n.values (values_of vs)) ≡ leb limit i
    unfolding lacks
    value_full = rw ei (place_full (is_value a t) limit (take n.values (values_of vs)) (rw (values_long vs n.values (values_fit lent)) lent.few_values))

    bucket_full : lacks limit (is_bucket a t.offset) (take n.buckets (buckets_of bs)) ≡ leb limit j
    unfolding lacks
    bucket_full = rw ej (place_full (is_bucket a t.offset) limit (take n.buckets (buckets_of bs)) (rw (buckets_long bs n.buckets (buckets_fit lent)) lent.few_buckets))

    refusing : {c : Changed} → c ≡ overfull n → pushed limit (store_of vs bs n) a t v ≡ refused R.Held → Did vs bs n (pushed limit (store_of vs bs n) a t v) vs bs c
    refusing q e = rw (q, e) (record { outcome = refl; laid = laid_same })

    pub push_no_value : {c : Changed} → limit ≤ i → c ≡ overfull n → Did vs bs n (pushed limit (store_of vs bs n) a t v) vs bs c
    unfolding pushed
    push_no_value h q = refusing q (simp (value_full, le-leb limit i h))

    pub push_no_bucket : {c : Changed} → limit ≤ j → c ≡ overfull n → Did vs bs n (pushed limit (store_of vs bs n) a t v) vs bs c
    push_no_bucket h q = refusing q (push_over limit (store_of vs bs n) a t v (bucket_full ∙ le-leb limit j h))

    abbrev put : ℕ → Store
    put k =
        record {
          values = value_put (record { action = a; tag = t; value = v }) (take n.values (values_of vs));
          buckets = bucket_put (record { action = a; offset = t.offset; next = k }) (take n.buckets (buckets_of bs));
        }

    pub push_is : i < limit → j < limit → pushed limit (store_of vs bs n) a t v ≡ done (put (following t.microstep))
    unfolding pushed
    push_is h k = simp (value_full, bucket_full, lt-leb limit i h, lt-leb limit j k)

    pub push_done : {k : ℕ} {m : Counts} {vs-end bs-end : List ℕ} → i < limit → j < limit → k ≡ following t.microstep → Laid vs bs n (put k) vs-end bs-end m
        → Did vs bs n (pushed limit (store_of vs bs n) a t v) vs-end bs-end (record { outcome = Ok tt; held = m })
    push_done h l e q = rw (push_is h l, ← e) (record { outcome = refl; laid = q })

  -- ---- take, clear

  module _ (a : ℕ) (t : Tag) where
    pub take_none : (i : ℕ) → i ≡ place (is_value a t) (take n.values (values_of vs)) → n.values ≤ i → Laid vs bs n (taken (store_of vs bs n) a t) vs bs n
    unfolding taken
    take_none i e h = rw (lose_none (is_value a t) (take n.values (values_of vs)) (rw (values_long vs n.values (values_fit lent), ← e) h)) laid_same

    pub take_some : {k : ℕ} {vs-end : List ℕ} → k ≡ length (lose (is_value a t) (take n.values (values_of vs)))
        → HeldValues vs-end (lay blank_value (values_of vs) (lose (is_value a t) (take n.values (values_of vs))) n.values)
        → Laid vs bs n (taken (store_of vs bs n) a t) vs-end bs (record { values = k; buckets = n.buckets })
    unfolding taken
    take_some e h = record { values = h; buckets = laid_same.buckets; some_values = e; some_buckets = laid_same.some_buckets }

  module _ (p : Value → Bool) {k : ℕ} (e : k ≡ length (lose p (take n.values (values_of vs)))) where
    left_few : k ≤ n.values
    left_few = omega (arith, lose_shorter p (take n.values (values_of vs)), values_long vs n.values (values_fit lent))

    pub left_limit : k ≤ limit
    left_limit = omega (arith, left_few, lent.few_values)

    pub left_room : k ≤ room_for_entries
    left_room = omega (arith, left_limit, lent.room)

    left_are : {vs-end : List ℕ} → HeldValues vs-end (lay blank_value (values_of vs) (lose p (take n.values (values_of vs))) n.values)
        → take k (values_of vs-end) ≡ lose p (take n.values (values_of vs))
    left_are h =
        rw (h.things, e) (lay_take blank_value (values_of vs) (lose p (take n.values (values_of vs))) n.values (rw (things_length, ← e) left_room))

  module _ (a : ℕ) (t : Tag) {k there : ℕ} {vs-end : List ℕ} (e : k ≡ length (lose (is_before a t) (take n.values (values_of vs))))
      (h : HeldValues vs-end (lay blank_value (values_of vs) (lose (is_before a t) (take n.values (values_of vs))) n.values))
      (f : there ≡ place (is_there a t.offset) (take k (values_of vs-end))) where
    some_left : any (is_there a t.offset) (lose (is_before a t) (take n.values (values_of vs))) ≡ ltb there k
    some_left = rw (f, e, ← (left_are (is_before a t) e h)) (place_any (is_there a t.offset) (take k (values_of vs-end)) ∙ rw (values_long vs-end k (left_room (is_before a t) e), e))

    pub clear_before_done : {rest : ℕ} {bs-end : List ℕ} → rest ≡ length (lose (is_spent a t (ltb there k)) (take n.buckets (buckets_of bs)))
        → HeldBuckets bs-end (lay blank_bucket (buckets_of bs) (lose (is_spent a t (ltb there k)) (take n.buckets (buckets_of bs))) n.buckets)
        → Laid vs bs n (cleared_before (store_of vs bs n) a t) vs-end bs-end (record { values = k; buckets = rest })
    unfolding cleared_before
    clear_before_done p q = rw some_left (record { values = h; buckets = q; some_values = e; some_buckets = p })

-- ---- move

module _ {limit : ℕ} (vs bs : List ℕ) (n : Counts) (lent : Lent limit vs bs n) where
  module _ (a : ℕ) (old new : Tag) where
    abbrev here : Store
    here = store_of vs bs n

    pub move_same : {b : Bool} → b ≡ same_tag old new → b ≡ true → Did vs bs n (moved limit here a old new) vs bs (record { outcome = Ok tt; held = n })
    unfolding moved
    move_same e h = simp (sym e ∙ h) (record { outcome = refl; laid = laid_same vs bs n lent })

    module _ {b : Bool} (eb : b ≡ same_tag old new) (hb : b ≡ false) (i j : ℕ) (ei : i ≡ place (is_value a old) (take n.values (values_of vs)))
        (ej : j ≡ place (is_bucket a new.offset) (take n.buckets (buckets_of bs))) where
      pub move_none : n.values ≤ i → Did vs bs n (moved limit here a old new) vs bs (record { outcome = Ok tt; held = n })
      unfolding moved
      move_none h = simp (sym eb ∙ hb, ← (no_value vs n.values (values_fit lent) a old i ei h)) (record { outcome = refl; laid = laid_same vs bs n lent })

      module _ (h : i < n.values) (v : Value) (r : v ≡ get_or (values_of vs) i blank_value) where
        move_is : moved limit here a old new ≡ pushed limit (taken here a old) a new v.value
        unfolding moved
        move_is = simp (sym eb ∙ hb, ← (this_value vs n.values (values_fit lent) a old i ei v h r refl))

        module _ {k : ℕ} {mid : List ℕ} (e : k ≡ length (lose (is_value a old) (take n.values (values_of vs))))
            (q : HeldValues mid (lay blank_value (values_of vs) (lose (is_value a old) (take n.values (values_of vs))) n.values)) where
          less_lent : Lent limit mid bs (record { values = k; buckets = n.buckets })
          less_lent = record { values = q.whole; buckets = lent.buckets; few_values = left_limit vs bs n lent (is_value a old) e; few_buckets = lent.few_buckets; room = lent.room }

          less_store : store_of mid bs (record { values = k; buckets = n.buckets }) ≡ taken here a old
          unfolding taken
          less_store = rw (left_are vs bs n lent (is_value a old) e q)

          fewer : k < n.values
          fewer =
              let l : length (take n.values (values_of vs)) ≡ n.values = values_long vs n.values (values_fit lent) in
              omega (arith, lose_fewer (is_value a old) (take n.values (values_of vs)) (rw (← ei, l) h), l)

          abbrev less : Counts
          less = record { values = k; buckets = n.buckets }

          room : place (is_value a new) (take k (values_of mid)) < limit
          room = omega (arith, place_short (is_value a new) (take k (values_of mid)), values_long mid k (left_room vs bs n lent (is_value a old) e), fewer, lent.few_values)

          over_both : (u : Store) {vs-end bs-end : List ℕ} {m : Counts} → k ≤ max n.values (length u.values) → Laid mid bs less u vs-end bs-end m → Laid vs bs n u vs-end bs-end m
          over_both u b d =
              record {
                values = rw (← (lay_lay blank_value (values_of vs) (lose (is_value a old) (take n.values (values_of vs))) u.values n.values (rw (← e) b)), ← q.things, ← e) d.values;
                buckets = d.buckets;
                some_values = d.some_values;
                some_buckets = d.some_buckets;
              }

          move_to : (u : Store) {vs-end bs-end : List ℕ} {c : Changed} → pushed limit (store_of mid bs less) a new v.value ≡ done u
              → Did mid bs less (pushed limit (store_of mid bs less) a new v.value) vs-end bs-end c → Did vs bs n (moved limit here a old new) vs-end bs-end c
          move_to u p d =
              let x : moved limit here a old new ≡ done u = move_is ∙ (ap (λ s. pushed limit s a new v.value) (sym less_store) ∙ p) in
              let y = rw p at d in
              rw x (record { outcome = y.outcome; laid = over_both u (omega (arith, fewer)) y.laid })

          -- the push is not refused: a value went, and the bucket is there or has room
          pub move_done : {vs-end bs-end : List ℕ} {c : Changed} → j < limit → Did mid bs less (pushed limit (store_of mid bs less) a new v.value) vs-end bs-end c
              → Did vs bs n (moved limit here a old new) vs-end bs-end c
          move_done l d = move_to _ (push_is mid bs less less_lent a new v.value _ j refl ej room l) d

      pub move_full : {c : Changed} → i < n.values → limit ≤ j → c ≡ overfull n → Did vs bs n (moved limit here a old new) vs bs c
      unfolding taken
      move_full h l q =
          let v = get_or (values_of vs) i blank_value in
          let over = push_over limit (taken here a old) a new v.value (bucket_full vs bs n lent a new 0 _ j refl ej ∙ le-leb limit j l) in
          rw (q, move_is h v refl ∙ over) (record { outcome = refl; laid = laid_same vs bs n lent })
