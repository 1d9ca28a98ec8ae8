-- What a call on lent rows answers and leaves, and a call by value from it. Assumes nothing.
use mathlib.Core.Bool.{Bool, true, false, not}
use mathlib.Core.Path.{◌≡◌, refl, ap, ◌∙◌, sym}
use mathlib.Core.List.{List, ◌∷◌, map}
use Prim.Native.Nat.{ℕ, zero, suc, ◌<◌, ◌≤◌}
use native.Mathlib.Nat.{le_trans}
use lib.Dec.{leb}
use borrow.Author.Tests.{lt-ltb, le-ltb, leb-true, not-true, not-false}
use lib.ListN.{length, take, length-map, replicate}
use Rattle.lists.specs.Tests.{and_left, and_right}
use Rattle.lists.specs.Lay.{lay_same}
use Rattle.lists.specs.Walk.{Result, done, refused, ◌>>=◌}
use Rattle.refusals.specs.declared.Refusal.{Refusal}
use Rattle.refusals.specs.declared.Refusal.TheVariants as R
use Rattle.table.specs.Check.{is_table}
use Rattle.table_rows.specs.Kinds as K
use Rattle.table_rows.specs.Limits.{limits}
use Rattle.tags.specs.Views.{of_global}
use Rattle.tags.specs.declared.GlobalTag.{GlobalTag}
use Rattle.store_words.specs.declared.Value as code_value
use Rattle.store_words.specs.declared.Bucket as code_bucket
use Rattle.store_words.specs.Entries.{room_for_entries, held_fits, of_value, of_bucket, blank_value, blank_bucket}
use Rattle.store_words.specs.Words.{values_of, buckets_of, HeldValues, HeldBuckets, decode_value, encode_value, value_words, long_value, decode_bucket, encode_bucket, bucket_words, long_bucket}
use Rattle.lists.specs.Loops.{front_long}
use Rattle.store.specs.Store as S
use Rattle.store.specs.Store.{pushed, value_in, next_in, at_least, next_microstep, taken, cleared_before, cleared, moved}
use Rattle.store_calls.specs.declared.Counts.{Counts}
use Rattle.store_calls.specs.declared.Changed.{Changed}
use Rattle.store_calls.specs.declared.Taken.{Taken}
use Rattle.store_calls.specs.Lent.{store_of, Lent, Laid, Did, found_of, next_of}
use Rattle.store_calls.proofs.Calls.{laid_same}
use Rattle.store_rules.specs.Rules.{counted_rules}
use Rattle.value_store.specs.Calls as C
use Rattle.value_store.specs.Calls.{Arrays, Answer, ok, number, nothing_there, no, said, outcome, fresh_arrays}
use Rattle.value_store.specs.Calls.{held_in, laid, action_of, arguments_in, is_sound, perform, called, step, answered}
use Rattle.std.specs.Prelude.{Some, None, Ok, Err, MatchOption, IsSomeAnd}
use Rattle.std.specs.Result.{result_and}
use Rattle.std.specs.Prelude as code
use Rattle.value_store.specs.Views.{arrays_of, arrays_in, said_of, answer_of, call_of, answer_for, DidCall}
use Rattle.value_store.specs.declared.Store.{Store}
use Rattle.value_store.specs.declared.Answer as answer
use Rattle.value_store.specs.declared.Answer.TheVariants as A
use Rattle.value_store.specs.declared.Call.{Call}
use Rattle.value_store.specs.declared.Call.TheVariants as E
use Rattle.value_store.specs.declared.Called.{Called}

pub length_mapped : (X Y : Type 0) (f : X → Y) (l : List X) (n : ℕ) → length (map f l) ≡ n → length l ≡ n
length_mapped X Y f l n h = sym (length-map l f) ∙ h

-- ---- answers

pub done_of : (o : code.Result Unit Refusal) → answer_of (result_and o (Ok A.Done)) ≡ answer_for o
done_of (Ok x) = refl
done_of (Err r) = refl

pub widened : (o r : code.Option ℕ) → MatchOption o (r ≡ None) (λ x. IsSomeAnd r (λ y. y ≡ x)) → found_of r ≡ next_of o
widened None r h = rw h
widened (Some x) (Some y) h = rw h
widened (Some x) None h = absurd h

-- ---- an array

map_all : {A B : Type 0} (f : A → B) (n : ℕ) (a : A) → map f (replicate n a) ≡ replicate n (f a)
map_all f zero a = refl
map_all f (suc n) a = ap (f a ∷◌) (map_all f n a)

pub new_is : (v : code_value.Value) (b : code_bucket.Bucket) → of_value v ≡ blank_value → of_bucket b ≡ blank_bucket
    → record { values = map of_value (replicate room_for_entries v); held = 0; buckets = map of_bucket (replicate room_for_entries b); «open» = 0 } ≡ fresh_arrays
new_is v b e f =
    ap (λ x. record { values = x; held = 0; buckets = map of_bucket (replicate room_for_entries b); «open» = 0 }) (map_all of_value room_for_entries v ∙ ap (replicate room_for_entries) e) ∙
    ap (λ x. record { values = replicate room_for_entries blank_value; held = 0; buckets = x; «open» = 0 }) (map_all of_bucket room_for_entries b ∙ ap (replicate room_for_entries) f)

-- ---- the calls on lent rows

module _ {limit : ℕ} (vs bs : List ℕ) (n : Counts) (lent : Lent limit vs bs n) where
  abbrev here : S.Store
  here = store_of vs bs n

  -- a call that may be refused
  did : {ve be : List ℕ} (p : Result Refusal S.Store) (ch : Changed) (k : Called) → Did vs bs n p ve be ch → answer_of k.answer ≡ answer_for ch.outcome → k.held ≡ ch.held →
      DidCall vs bs n (p >>= λ u. done (outcome ok u)) ve be k
  did (done u) ch k d e h = let o = d.outcome in record { answer = e ∙ ap answer_for o; laid = rw h d.laid }
  did (refused r) ch k d e h = let o = d.outcome in record { answer = e ∙ ap answer_for o; laid = rw h d.laid }

  module _ (c : Call) (a : ℕ) {ve be : List ℕ} where
    pub call_push : (t : GlobalTag) (v : ℕ) (ch : Changed) (k : Called) → c ≡ E.Push a t v → Did vs bs n (pushed limit here a (of_global t) v) ve be ch →
        answer_of k.answer ≡ answer_for ch.outcome → k.held ≡ ch.held → DidCall vs bs n (perform limit here (call_of c)) ve be k
    unfolding perform
    call_push t v ch k e d f h = rw e (did (pushed limit here a (of_global t) v) ch k d f h)

    pub call_move : (t u : GlobalTag) (ch : Changed) (k : Called) → c ≡ E.MoveValue a t u → Did vs bs n (moved limit here a (of_global t) (of_global u)) ve be ch →
        answer_of k.answer ≡ answer_for ch.outcome → k.held ≡ ch.held → DidCall vs bs n (perform limit here (call_of c)) ve be k
    unfolding perform
    call_move t u ch k e d f h = rw e (did (moved limit here a (of_global t) (of_global u)) ch k d f h)

    pub call_take : (t : GlobalTag) (k : Taken) (x : answer.Answer) → c ≡ E.Take a t → found_of k.found ≡ value_in a (of_global t) (take n.values (values_of vs)) →
        Laid vs bs n (taken here a (of_global t)) ve be k.held → said_of x ≡ said (found_of k.found) →
        DidCall vs bs n (perform limit here (call_of c)) ve be (record { answer = Ok x; held = k.held })
    unfolding perform
    call_take t k x e f l h = rw e (record { answer = h ∙ ap said f; laid = l })

    module _ (m : Counts) where
      pub call_clear_before : (t : GlobalTag) → c ≡ E.ClearOlderThan a t → Laid vs bs n (cleared_before here a (of_global t)) ve be m →
          DidCall vs bs n (perform limit here (call_of c)) ve be (record { answer = Ok A.Done; held = m })
      unfolding perform
      call_clear_before t e l = rw e (record { answer = refl; laid = l })

      pub call_clear : c ≡ E.Clear a → Laid vs bs n (cleared here a) ve be m → DidCall vs bs n (perform limit here (call_of c)) ve be (record { answer = Ok A.Done; held = m })
      unfolding perform
      call_clear e l = rw e (record { answer = refl; laid = l })

  module _ (c : Call) where
    pub call_next : (a o m : ℕ) (k : code.Option ℕ) (x : answer.Answer) → c ≡ E.NextMicrostep a o m → next_of k ≡ at_least (next_in a o (take n.buckets (buckets_of bs))) m → said_of x ≡ said (next_of k) →
        DidCall vs bs n (perform limit here (call_of c)) vs bs (record { answer = Ok x; held = n })
    unfolding perform next_microstep
    call_next a o m k x e f h = rw e (record { answer = h ∙ ap said f; laid = laid_same vs bs n lent })

    -- 5, 6
    module _ (image : List ℕ) {k a : ℕ} (ek : k ≡ K.count image K.action) (ea : a ≡ action_of (call_of c)) where
      pub call_key : k ≤ a → DidCall vs bs n (called image here (call_of c)) vs bs (record { answer = Err R.Key; held = n })
      unfolding called
      call_key h = rw (← ek, ← ea, le-ltb a k h) (record { answer = refl; laid = laid_same vs bs n lent })

      module _ (h : a < k) {w : Bool} (ew : w ≡ arguments_in (call_of c)) where
        pub call_tag : w ≡ false → DidCall vs bs n (called image here (call_of c)) vs bs (record { answer = Err R.ArgumentTag; held = n })
        unfolding called
        call_tag y = rw (← ek, ← ea, lt-ltb a k h, ← ew, y) (record { answer = refl; laid = laid_same vs bs n lent })

        pub call_passed : {ve be : List ℕ} (x : Called) → w ≡ true → {m : ℕ} → m ≡ (limits image).held → DidCall vs bs n (perform m here (call_of c)) ve be x →
            DidCall vs bs n (called image here (call_of c)) ve be x
        unfolding called
        call_passed x y e d = rw (← ek, ← ea, lt-ltb a k h, ← ew, y, ← e) d

-- ---- by value

abbrev pub counts : Store → Counts
counts s = record { values = s.held; buckets = s.«open» }

module _ (image vs bs : List ℕ) (n : Counts) {t : Bool} (et : t ≡ is_table image) where
  pub sound_rules : {q : Bool} {m k : ℕ} → t ≡ true → m ≡ (limits image).held → k ≡ K.count image K.action →
      q ≡ counted_rules m k n.values n.buckets (store_of vs bs n) → q ≡ is_sound image (arrays_in vs bs n)
  unfolding is_sound
  sound_rules y em ek e = rw (← et, y, ← em, ← ek) e

  pub sound_table : t ≡ false → false ≡ is_sound image (arrays_in vs bs n)
  unfolding is_sound
  sound_table y = rw (← et, y)

module _ (image : List ℕ) (s : Store) (vs bs : List ℕ) (hv : HeldValues vs (map of_value s.values)) (hb : HeldBuckets bs (map of_bucket s.buckets))
    {q : Bool} (eq : q ≡ is_sound image (arrays_in vs bs (counts s))) where
  sound_is : is_sound image (arrays_of s) ≡ q
  sound_is = sym (eq ∙ rw (hv.things, hb.things))

  pub run_eleven : (c : C.Call) → not q ≡ true → record { answer = no R.StateRule; store = arrays_of s } ≡ answered (arrays_of s) (step image (arrays_of s) c)
  unfolding step
  run_eleven c y = rw (sound_is ∙ not-true q y)

  module _ (y : not q ≡ false) where
    sound : is_sound image (arrays_of s) ≡ true
    sound = sound_is ∙ not-false q y

    few_values : s.held ≤ (limits image).held
    unfolding is_sound counted_rules
    few_values = leb-true s.held _ (and_left (leb s.held (limits image).held) _ (and_right (is_table image) _ sound))

    few_buckets : s.«open» ≤ (limits image).held
    unfolding is_sound counted_rules
    few_buckets =
        leb-true s.«open» _ (and_left (leb s.«open» (limits image).held) _ (and_right (leb s.held (limits image).held) _ (and_right (is_table image) _ sound)))

    pub run_lent : Lent (limits image).held vs bs (counts s)
    run_lent = record { values = hv.whole; buckets = hb.whole; few_values = few_values; few_buckets = few_buckets; room = held_fits image }

    held_is : held_in (arrays_of s) ≡ store_of vs bs (counts s)
    held_is = rw (← hv.things, ← hb.things)

    module _ (c : C.Call) {ve be : List ℕ} (k : Called) {x : Arrays} (e : x ≡ arrays_in ve be k.held) where
      ended : (t : S.Store) → Laid vs bs (counts s) t ve be k.held → x ≡ laid (arrays_of s) t
      ended t l = e ∙ rw (l.values.things, l.buckets.things, l.some_values, l.some_buckets, hv.things, hb.things)

      as_given : Laid vs bs (counts s) (store_of vs bs (counts s)) ve be k.held → x ≡ arrays_of s
      as_given l =
          ended (store_of vs bs (counts s)) l ∙
          rw (
            front_long decode_value encode_value value_words room_for_entries long_value vs s.held (le_trans few_values (held_fits image)),
            front_long decode_bucket encode_bucket bucket_words room_for_entries long_bucket bs s.«open» (le_trans few_buckets (held_fits image)),
            hv.things,
            hb.things,
            lay_same blank_value (map of_value s.values) s.held,
            lay_same blank_bucket (map of_bucket s.buckets) s.«open»,
          )

      pub run_called : DidCall vs bs (counts s) (called image (store_of vs bs (counts s)) c) ve be k →
          record { answer = answer_of k.answer; store = x } ≡ answered (arrays_of s) (step image (arrays_of s) c)
      unfolding step
      run_called d = rw (sound, held_is) (go (called image (store_of vs bs (counts s)) c) d)
        where
          go : (r : Result Refusal C.Outcome) → DidCall vs bs (counts s) r ve be k → record { answer = answer_of k.answer; store = x } ≡ answered (arrays_of s) r
          go (done o) d = rw (d.answer, ended o.store d.laid)
          go (refused m) d = rw (d.answer, as_given d.laid)
