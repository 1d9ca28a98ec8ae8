-- Every accepted call of the store keeps the store's rules, as crate store_rules proves it. Assumes nothing.
use Rattle.std.specs.Prelude.{ℕ, true, ◌≡◌, ltb}
use Rattle.lists.specs.Walk.{done}
use Rattle.tags.specs.Tags.{Tag, within}
use Rattle.store.specs.Store.{Store, empty_store, pushed, taken, cleared_before, cleared, moved, store_rules}
use Rattle.store_rules.proofs.Kept.{rules_kept, kept_rules, empty_kept, pushed_kept, taken_kept, moved_kept, cleared_kept, cleared_before_kept}

pub empty_rules : (limit n : ℕ) → store_rules limit n empty_store ≡ true
empty_rules limit n = empty_kept limit n

module _ (limit n : ℕ) (s : Store) (h : store_rules limit n s ≡ true) where
  pub push_keeps : (a : ℕ) (t : Tag) (v : ℕ) (u : Store) → ltb a n ≡ true → within t ≡ true → pushed limit s a t v ≡ done u → store_rules limit n u ≡ true
  push_keeps a t v u k w d = kept_rules limit n u (pushed_kept limit n s a t v u (rules_kept limit n s h) k w d)

  pub take_keeps : (a : ℕ) (t : Tag) → store_rules limit n (taken s a t) ≡ true
  take_keeps a t = kept_rules limit n (taken s a t) (taken_kept limit n s a t (rules_kept limit n s h))

  pub clear_keeps : (a : ℕ) → store_rules limit n (cleared s a) ≡ true
  clear_keeps a = kept_rules limit n (cleared s a) (cleared_kept limit n s a (rules_kept limit n s h))

  pub clear_before_keeps : (a : ℕ) (t : Tag) → store_rules limit n (cleared_before s a t) ≡ true
  clear_before_keeps a t = kept_rules limit n (cleared_before s a t) (cleared_before_kept limit n s a t (rules_kept limit n s h))

  pub move_keeps : (a : ℕ) (old new : Tag) (u : Store) → ltb a n ≡ true → within new ≡ true → moved limit s a old new ≡ done u → store_rules limit n u ≡ true
  move_keeps a old new u k w d = kept_rules limit n u (moved_kept limit n s a old new u (rules_kept limit n s h) k w d)
