-- Values of tests from facts, and facts from tests: what the kit's own `borrow.Author.Tests` lacks. Assumes nothing.
use Rattle.std.specs.Prelude.{ℕ, ◌<◌, ◌≤◌, ◌≡◌, refl, Bool, true, false, cond, not, ◌&&◌, ◌||◌, ◌⊎◌, T, ltb, eqb}
use Rattle.std.proofs.Common.{sym, ◌∙◌, inl, inr, ⊎_elim, le_of_lt, arith, lt-ltb, le-ltb, le-leb, eq-eqb, ne_eqb, eqb-true, ltb-true, ltb-false}
use Rattle.std.proofs.lemmas.Bool.{lt-leb, not-true, not-false, eqb-false}

pub lt_eqb : (a b : ℕ) → a < b → eqb a b ≡ false
lt_eqb a b h = ne_eqb a b λ e. omega arith

pub gt_eqb : (a b : ℕ) → b < a → eqb a b ≡ false
gt_eqb a b h = ne_eqb a b λ e. omega arith

pub gt_ltb : (a b : ℕ) → b < a → ltb a b ≡ false
gt_ltb a b h = le-ltb a b (le_of_lt h)

pub both_eqb : (a b : ℕ) → a ≤ b → b ≤ a → eqb a b ≡ true
both_eqb a b h k = eq-eqb a b (omega arith)

-- a test's value from the facts on the way to a place: `search tests` rewrites by them, and finds the facts by itself
pub ruleset tests = (lt-ltb, le-ltb, gt_ltb, le-leb, lt-leb, eq-eqb, ne_eqb, lt_eqb, gt_eqb, both_eqb)

-- what a call's result r, and then a branch on it, tell of the test b that the callee's contract names
pub flag : {b r v : Bool} → r ≡ b → r ≡ v → b ≡ v
flag p q = sym p ∙ q

pub flag_no : {b r : Bool} → r ≡ b → not r ≡ true → b ≡ false
flag_no {b} {r} p q = sym p ∙ not-true r q

pub flag_yes : {b r : Bool} → r ≡ b → not r ≡ false → b ≡ true
flag_yes {b} {r} p q = sym p ∙ not-false r q

-- ---- a test as a number

abbrev pub bit_of : Bool → ℕ
bit_of b = cond b 1 0

pub bit_small : (b : Bool) → bit_of b < 2
bit_small true = omega arith
bit_small false = omega arith

pub bit_back : (b : Bool) {n : ℕ} → n ≡ bit_of b → eqb n 1 ≡ b
bit_back true e = rw e
bit_back false e = rw e

-- ---- two tests at once

pub and_left : (a b : Bool) → (a && b) ≡ true → a ≡ true
and_left true b e = refl
and_left false b e = e

pub and_right : (a b : Bool) → (a && b) ≡ true → b ≡ true
and_right true b e = e
and_right false b e = absurd_false e
  where
    absurd_false : {x : Bool} → false ≡ true → x ≡ true
    absurd_false e = cc

pub and_both : (a b : Bool) → a ≡ true → b ≡ true → (a && b) ≡ true
and_both a b p q = simp (p, q)

pub or_neither : (a b : Bool) → a ≡ false → b ≡ false → (a || b) ≡ false
or_neither a b p q = simp (p, q)

pub T-left : (a b : Bool) → T (a && b) → T a
T-left true b t = tt
T-left false b t = t

pub T-right : (a b : Bool) → T (a && b) → T b
T-right true b t = t
T-right false b t = absurd t

-- ---- either way

pub same? : (j k : ℕ) → (j ≡ k) ⊎ (j ≡ k → ⊥)
same? j k = go (eqb j k) refl
  where
    go : (b : Bool) → eqb j k ≡ b → (j ≡ k) ⊎ (j ≡ k → ⊥)
    go true e = inl (eqb-true j k e)
    go false e = inr (eqb-false j k e)

pub apart : (j k : ℕ) → (j ≡ k → ⊥) → (j < k) ⊎ (k < j)
apart j k e = go (ltb j k) refl
  where
    go : (b : Bool) → ltb j k ≡ b → (j < k) ⊎ (k < j)
    go true h = inl (ltb-true j k h)
    go false h = inr (let g = ltb-false j k h in omega arith)

pub which : (b : Bool) → (b ≡ true) ⊎ (b ≡ false)
which true = inl refl
which false = inr refl

pub below? : (a b : ℕ) → (a < b) ⊎ (b ≤ a)
below? a b = ⊎_elim (λ e. inl (ltb-true a b e)) (λ e. inr (ltb-false a b e)) (which (ltb a b))

pub yes_no : {b : Bool} → b ≡ true → b ≡ false → ⊥
yes_no p q = let z : ◌≡◌ {A = ℕ} 0 1 = cc in omega arith

pub and_no : (b : Bool) → (b && false) ≡ false
and_no true = refl
and_no false = refl

pub and_yes : (b : Bool) → (b && true) ≡ b
and_yes true = refl
and_yes false = refl

pub or_no : (b : Bool) → (b || false) ≡ b
or_no true = refl
or_no false = refl

pub or_yes : (b : Bool) → (b || true) ≡ true
or_yes true = refl
or_yes false = refl
