-- Every accepted call keeps the state rules, on the store and on the arrays that are handed back. Assumes nothing.
use mathlib.Core.Bool.{Bool, true, false, cond}
use mathlib.Core.Path.{◌≡◌, refl}
use Prim.Native.Nat.{ℕ}
use native.Mathlib.Nat.{le_trans}
use native.Mathlib.Omega.{arith}
use mathlib.Core.List.{List}
use lib.Dec.{ltb, leb}
use lib.ListN.{length}
use borrow.Author.Tests.{le-leb}
use Rattle.lists.specs.Tests.{and_left, and_right}
use Rattle.lists.specs.Lay.{lay_take}
use Rattle.lists.specs.Walk.{Result, done, refused, bind_done}
use Rattle.refusals.specs.declared.Refusal.{Refusal}
use Rattle.refusals.specs.declared.Refusal.TheVariants as R
use Rattle.table.specs.Check.{is_table}
use Rattle.table_rows.specs.Kinds as K
use Rattle.table_rows.specs.Limits.{limits}
use Rattle.tags.specs.Tags.{within}
use Rattle.store_words.specs.Entries.{room_for_entries, held_fits, blank_value, blank_bucket}
use Rattle.store.specs.Store.{Store, store_rules, pushed, moved}
use Rattle.store_rules.specs.Rules.{counted_rules}
use Rattle.store_rules.proofs.Kept.{Kept, pushed_kept, taken_kept, cleared_before_kept, cleared_kept, moved_kept, rules_kept, kept_rules}
use Rattle.value_store.specs.Calls.{Call, push, next, take_out, clear_before_lem, clear, move, Outcome, outcome}
use Rattle.value_store.specs.Calls.{ok, Arrays, held_in, laid, action_of, arguments_in, is_sound, perform, called, step}

done_is : {a b : Outcome} → ◌≡◌ {A = Result Refusal Outcome} (done a) (done b) → a ≡ b
done_is e = cc

module _ (limit n : ℕ) (s : Store) (h : Kept limit n s) (o : Outcome) where
  kept : (c : Call) → ltb (action_of c) n ≡ true → arguments_in c ≡ true → perform limit s c ≡ done o → Kept limit n o.store
  unfolding perform
  kept (push a t v) k w d = bind_done (pushed limit s a t v) (λ u. done (outcome ok u)) d λ u p q. rw (← (done_is q)) (pushed_kept limit n s a t v u h k w p)
  kept (next a x m) k w d = rw (← (done_is d)) h
  kept (take_out a t) k w d = rw (← (done_is d)) (taken_kept limit n s a t h)
  kept (clear_before_lem a t) k w d = rw (← (done_is d)) (cleared_before_kept limit n s a t h)
  kept (clear a) k w d = rw (← (done_is d)) (cleared_kept limit n s a h)
  kept (move a t u) k w d = bind_done (moved limit s a t u) (λ x. done (outcome ok x)) d λ x p q. rw (← (done_is q)) (moved_kept limit n s a t u x h k (and_right (within t) (within u) w) p)

-- a store that keeps the rules keeps them after every accepted call
pub calls_keep : (limit n : ℕ) (s : Store) (c : Call) (o : Outcome) → store_rules limit n s ≡ true → ltb (action_of c) n ≡ true → arguments_in c ≡ true → perform limit s c ≡ done o →
    store_rules limit n o.store ≡ true
calls_keep limit n s c o e k w d = kept_rules limit n o.store (kept limit n s (rules_kept limit n s e) o c k w d)

-- and what a public call hands back is never refused 11
module _ (image : List ℕ) (a : Arrays) (lv : length a.values ≡ room_for_entries) (lb : length a.buckets ≡ room_for_entries) (c : Call) (o : Outcome) where
  abbrev limit : ℕ
  limit = (limits image).held

  not_done : {A : Type 0} {r : Refusal} {x : A} → refused r ≡ done x → ⊥
  not_done e = let z : ◌≡◌ {A = ℕ} 0 1 = cc in omega arith

  sound_laid : (t : Store) → is_table image ≡ true → store_rules limit (K.count image K.action) t ≡ true → is_sound image (laid a t) ≡ true
  unfolding is_sound counted_rules
  sound_laid t y e =
      let k = rules_kept limit (K.count image K.action) t e in
      simp (
        y,
        le-leb (length t.values) limit k.few_values,
        le-leb (length t.buckets) limit k.few_buckets,
        lay_take blank_value a.values t.values a.held (rw lv (le_trans k.few_values (held_fits image))),
        lay_take blank_bucket a.buckets t.buckets a.«open» (rw lb (le_trans k.few_buckets (held_fits image))),
      ) e

  sound_table : is_sound image a ≡ true → is_table image ≡ true
  unfolding is_sound
  sound_table e = and_left (is_table image) _ e

  sound_rules : is_sound image a ≡ true → store_rules limit (K.count image K.action) (held_in a) ≡ true
  unfolding is_sound counted_rules
  sound_rules e = and_right (leb a.«open» limit) _ (and_right (leb a.held limit) _ (and_right (is_table image) _ e))

  pub steps_keep : step image a c ≡ done o → is_sound image (laid a o.store) ≡ true
  unfolding step called
  steps_keep d = go (is_sound image a) (ltb (action_of c) (K.count image K.action)) (arguments_in c) refl refl refl d
    where
      go : (b k w : Bool) → is_sound image a ≡ b → ltb (action_of c) (K.count image K.action) ≡ k → arguments_in c ≡ w →
          cond b (cond k (cond w (perform limit (held_in a) c) (refused R.ArgumentTag)) (refused R.Key)) (refused R.StateRule) ≡ done o → is_sound image (laid a o.store) ≡ true
      go true true true x y z d = sound_laid o.store (sound_table x) (calls_keep limit (K.count image K.action) (held_in a) c o (sound_rules x) y z d)
      go true true false x y z d = absurd (not_done d)
      go true false w x y z d = absurd (not_done d)
      go false k w x y z d = absurd (not_done d)
