-- The numbers of a range that pass a test, ascending, with their laws; the first of a list; counting. Assumes nothing.
use Rattle.std.specs.Prelude.{◌≡◌, Bool, ◌&&◌, ◌||◌, ltb, leb}
use Rattle.std.proofs.Math.Path.{refl}
use Rattle.std.proofs.Common.{sym, ◌∙◌, add-one}
use Rattle.std.proofs.Math.Logic.{⊎_elim}
use Rattle.std.proofs.Math.Bool.{true, false, cond}
use mathlib.Core.List.{List, [], ◌∷◌}
use Rattle.std.proofs.Math.Option.{Option, none, some}
use Prim.Native.Nat.{ℕ, zero, suc, ◌+◌, ◌-◌, ◌≤◌, ◌<◌}
use native.Mathlib.Omega.{arith}
use borrow.Author.Tests.{lt-ltb, le-leb, leb-true}
use Rattle.lists.specs.Tests.{and_left, and_right, below?}
use Rattle.lists.specs.Lists.{keep, any, count, from}

-- ---- the first of a list, if there is one

abbrev pub first : {A : Type 0} → List A → Option A
first [] = none
first (a ∷ l) = some a

pub first_none : {A : Type 0} (l : List A) → first l ≡ none → l ≡ []
first_none [] e = refl
first_none (a ∷ l) e = absurd (let z : ◌≡◌ {A = ℕ} 0 1 = cc in omega arith)

-- ---- counting

abbrev pub one : Bool → ℕ
one true = 1
one false = 0

-- some one passes exactly if one is counted
pub any_count : {A : Type 0} (q : A → Bool) (l : List A) → any q l ≡ ltb 0 (count q l)
unfolding any count
any_count q [] = refl
any_count q (a ∷ l) = go (q a) (any_count q l)
  where
    go : (b : Bool) → any q l ≡ ltb 0 (count q l) → (b || any q l) ≡ ltb 0 (cond b (suc (count q l)) (count q l))
    go true r = sym (lt-ltb 0 (suc (count q l)) (omega arith))
    go false r = r

-- each is at least `low`, and above the one before it
unfoldable pub ascending : ℕ → List ℕ → Bool
ascending low [] = true
ascending low (k ∷ l) = leb low k && ascending (k + 1) l

pub ascend_less : (l : List ℕ) (low : ℕ) → ascending (low + 1) l ≡ true → ascending low l ≡ true
unfolding ascending
ascend_less [] low e = refl
ascend_less (k ∷ l) low e =
    let h = leb-true (low + 1) k (and_left (leb (low + 1) k) _ e) in
    rw (le-leb low k (omega (arith, h))) (and_right (leb (low + 1) k) _ e)

-- ---- ranges of numbers

-- what holds of every empty range up to n, and of a range if of its rest, holds of each
pub ranges : (n : ℕ) (P : ℕ → Type 0) → ((i : ℕ) → n ≤ i → P i) → ((i : ℕ) → i < n → P (i + 1) → P i) → (i : ℕ) → P i
ranges n P end more i = go (n - i) i (omega arith)
  where
    go : (d i : ℕ) → n ≤ i + d → P i
    go zero i h = end i (omega arith)
    go (suc d) i h = ⊎_elim (λ (g : i < n). more i g (go d (i + 1) (omega arith))) (end i) (below? i n)

-- the numbers from i on and below n that pass, ascending
unfoldable pub those : (ℕ → Bool) → ℕ → ℕ → List ℕ
those p i n = keep p (from i (n - i))

module _ (p : ℕ → Bool) (n i : ℕ) where
  pub those_no : i < n → p i ≡ false → those p i n ≡ those p (i + 1) n
  unfolding those keep from
  those_no h e = let d : n - i ≡ suc (n - (i + 1)) = omega arith in rw (d, e, add-one)

  pub those_end : n ≤ i → those p i n ≡ []
  unfolding those keep from
  those_end h = let d : n - i ≡ 0 = omega arith in rw d

-- m is the lowest number from i on and below n that passes
pub record Lowest (p : ℕ → Bool) (n i m : ℕ) : Type 0 where
  pub from : i ≤ m
  pub below : m < n
  pub passes : p m ≡ true
  pub before : (j : ℕ) → i ≤ j → j < m → p j ≡ false

module _ (p : ℕ → Bool) (n : ℕ) where
  -- there are none exactly if none passes
  pub those_none : (i : ℕ) → ((j : ℕ) → i ≤ j → j < n → p j ≡ false) → those p i n ≡ []
  those_none =
      ranges n (λ i. ((j : ℕ) → i ≤ j → j < n → p j ≡ false) → those p i n ≡ []) (λ i h f. those_end p n i h)
      λ i h r f. those_no p n i h (f i (omega arith) h) ∙ r (λ j a b. f j (omega arith) b)

abbrev pub both : (ℕ → Bool) → (ℕ → Bool) → ℕ → Bool
both p q k = p k && q k

abbrev pub either : (ℕ → Bool) → (ℕ → Bool) → ℕ → Bool
either p q k = p k || q k
