-- Tests on values that calls answered, chains of tests, and what is left of a list or of some numbers as a loop goes over them. Assumes nothing.
use Prim.Native.Nat.{ℕ, zero, suc, ◌+◌, ◌-◌, ◌≤◌, ◌<◌}
use Rattle.std.specs.Prelude.{◌≡◌, Bool, not, ◌&&◌, ◌||◌, List, [], ◌∷◌, map, ltb, leb, eqb, length, get_or, drop}
use Rattle.std.proofs.Math.Path.{refl}
use Rattle.std.proofs.Common.{sym, add-one, drop_of_length-le, lt-ltb, le-ltb, eq-eqb, ne_eqb}
use Rattle.std.proofs.Math.Bool.{true, false}
use native.Mathlib.Omega.{arith}
use Rattle.std.proofs.Math.ListN.{get_or-eq_default}
use Rattle.std.proofs.Math.Seq.{drop-cons}
use Rattle.lists.specs.Tests.{flag, flag_no, flag_yes}
use Rattle.lists.specs.Lists.{every, any, keep, from, foldl}

-- x and y are what the code has of the definition's a and b
module _ {x y a b : ℕ} (e : x ≡ a) (f : y ≡ b) where
  pub is_same : x ≡ y → eqb a b ≡ true
  is_same h = rw (← e, ← f) (eq-eqb x y h)

  pub is_not_other : x ≡ y → not (eqb a b) ≡ false
  is_not_other h = rw (← e, ← f, eq-eqb x y h)

  pub is_below : x < y → ltb a b ≡ true
  is_below h = rw (← e, ← f) (lt-ltb x y h)

  pub is_not_below : y ≤ x → ltb a b ≡ false
  is_not_below h = rw (← e, ← f) (le-ltb x y h)

  pub test_same : eqb x y ≡ eqb a b
  test_same = rw (e, f)

  pub test_below : ltb x y ≡ ltb a b
  test_below = rw (e, f)

  pub test_at_most : leb x y ≡ leb a b
  test_at_most = rw (e, f)

pub is_other : {x a : ℕ} (b : ℕ) → x ≡ a → (x ≡ b → ⊥) → eqb a b ≡ false
is_other {x} b e h = rw (← e) (ne_eqb x b h)

pub is_not_same : (a b : ℕ) → (a ≡ b → ⊥) → not (eqb a b) ≡ true
is_not_same a b h = rw (ne_eqb a b h)

-- a chain of tests: one is passed, or decides
module _ {a : Bool} where
  pub and_pass : {b r : Bool} → a ≡ true → r ≡ b → r ≡ (a && b)
  and_pass e h = rw e h

  pub and_stop : (b : Bool) → a ≡ false → false ≡ (a && b)
  and_stop b e = rw e

  pub or_pass : {b r : Bool} → a ≡ false → r ≡ b → r ≡ (a || b)
  or_pass e h = rw e h

  pub or_stop : (b : Bool) → a ≡ true → true ≡ (a || b)
  or_stop b e = rw e

pub ruleset compares = (is_same, is_not_other, is_other, is_not_same, ne_eqb, is_below, is_not_below, test_same, test_below, test_at_most)

-- the code's tests in a definition's order: `search chains`, under `unfolding` of the definition
pub ruleset chains = (and_pass, and_stop, or_pass, or_stop, compares, flag, flag_no, flag_yes, refl)

-- what is left of a list, as a loop goes over it
module _ {A : Type 0} (p : A → Bool) (l : List A) (i : ℕ) (d : A) where
  pub every_pass : i < length l → p (get_or l i d) ≡ true → every p (drop i l) ≡ every p (drop (i + 1) l)
  unfolding every
  every_pass h e = rw (add-one, drop-cons l i d h) (simp e)

  pub every_fail : i < length l → p (get_or l i d) ≡ false → every p (drop i l) ≡ false
  unfolding every
  every_fail h e = rw (drop-cons l i d h) (simp e)

pub every_end : {A : Type 0} (p : A → Bool) (l : List A) (i : ℕ) → length l ≤ i → every p (drop i l) ≡ true
unfolding every
every_end p l i h = rw (drop_of_length-le l h)

-- the numbers that are left, as a loop goes over them
module _ (n i : ℕ) where
  pub from_next : i < n → from i (n - i) ≡ i ∷ from (i + 1) (n - (i + 1))
  unfolding from
  from_next h = let e : n - i ≡ suc (n - (i + 1)) = omega arith in rw (e, add-one)

  pub from_end : n ≤ i → from i (n - i) ≡ []
  unfolding from
  from_end h = let e : n - i ≡ 0 = omega arith in rw e

module _ (p : ℕ → Bool) (n i : ℕ) where
  pub any_next : i < n → p i ≡ false → any p (from i (n - i)) ≡ any p (from (i + 1) (n - (i + 1)))
  unfolding any
  any_next h e = rw (from_next n i h) (simp e)

  pub any_found : i < n → p i ≡ true → any p (from i (n - i)) ≡ true
  unfolding any
  any_found h e = rw (from_next n i h) (simp e)

  pub any_none : n ≤ i → any p (from i (n - i)) ≡ false
  unfolding any
  any_none h = rw (from_end n i h)

-- a fold over what is kept of them, by what each stands for
module _ {B : Type 0} (f : B → ℕ → B) (p : ℕ → Bool) (g : ℕ → ℕ) (n i : ℕ) (b : B) where
  pub fold_end : n ≤ i → foldl f b (map g (keep p (from i (n - i)))) ≡ b
  unfolding foldl keep
  fold_end h = rw (from_end n i h)

-- the value past the end does not matter within, and is what is read there
pub read_in : {A : Type 0} (l : List A) (i : ℕ) (a b : A) → i < length l → get_or l i a ≡ get_or l i b
read_in [] i a b h = absurd (omega arith)
read_in (x ∷ l) zero a b h = refl
read_in (x ∷ l) (suc i) a b h = read_in l i a b (omega arith)

pub read_past : {A : Type 0} (l : List A) (i : ℕ) (d : A) → length l ≤ i → d ≡ get_or l i d
read_past l i d h = sym (get_or-eq_default l d h)
