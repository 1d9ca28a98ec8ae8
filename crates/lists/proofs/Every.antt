-- What those that are kept pass, and that they and those that stay are the whole. Assumes nothing.
use Rattle.std.specs.Prelude.{ℕ, suc, ◌+◌, ◌≡◌, Bool, cond, ◌&&◌, ltb}
use Rattle.std.proofs.Math.Path.{refl}
use Rattle.std.proofs.Common.{arith}
use Rattle.std.proofs.Math.Bool.{true, false}
use mathlib.Core.List.{List, [], ◌∷◌}
use Rattle.lists.specs.Tests.{and_left}
use Rattle.lists.specs.Lists.{keep, lose, count, every, from}
use Rattle.lists.specs.Every.{both, every_head, every_tail, every_imp, from_below}

-- ---- every one passes

module _ {A : Type 0} (p : A → Bool) where
  -- those that are kept pass both tests
  pub every_keep : (q : A → Bool) (l : List A) → every p l ≡ true → every (λ a. p a && q a) (keep q l) ≡ true
  unfolding every keep
  every_keep q [] e = refl
  every_keep q (a ∷ l) e = go (q a) refl (every_keep q l (every_tail p a l e))
    where
      go : (b : Bool) → q a ≡ b → every (λ a. p a && q a) (keep q l) ≡ true → every (λ a. p a && q a) (cond b (a ∷ keep q l) (keep q l)) ≡ true
      go true x r = both (both (every_head p a l e) x) r
      go false x r = r

-- ---- the n numbers from i on

-- those kept of the numbers below n are below n
pub keep_below : (q : ℕ → Bool) (n : ℕ) → every (λ j. ltb j n) (keep q (from 0 n)) ≡ true
keep_below q n = every_imp (λ j. ltb j n && q j) (λ j. ltb j n) (λ j x. and_left _ _ x) (keep q (from 0 n)) (every_keep (λ j. ltb j n) q (from 0 n) (from_below n 0 n (omega arith)))

-- ---- counting

module _ {A : Type 0} (p q : A → Bool) where
  split : (s t : Bool) (a : A) (x y : List A) (n : ℕ) → p a ≡ s → count p x + count p y ≡ n →
      count p (cond t (a ∷ x) x) + count p (cond t y (a ∷ y)) ≡ cond s (suc n) n
  unfolding count
  split true true a x y n e h = simp e (omega arith)
  split true false a x y n e h = simp e (omega arith)
  split false true a x y n e h = simp e (omega arith)
  split false false a x y n e h = simp e (omega arith)

  -- what is taken out and what stays count together as the whole
  pub count_split : (l : List A) → count p (keep q l) + count p (lose q l) ≡ count p l
  unfolding count keep lose
  count_split [] = refl
  count_split (a ∷ l) = split (p a) (q a) a (keep q l) (lose q l) (count p l) refl (count_split l)
