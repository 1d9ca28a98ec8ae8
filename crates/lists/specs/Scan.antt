-- The first index that fails a test, with its laws: for a loop that goes over indices and stops at the first that fails. Assumes nothing.
use Rattle.std.specs.Prelude.{◌≡◌, Bool}
use Rattle.std.proofs.Math.Path.{refl}
use Rattle.std.proofs.Common.{ap, ◌∙◌, add-one, not-suc-le-zero}
use Rattle.std.proofs.Math.Bool.{true, false, cond}
use Prim.Native.Nat.{ℕ, zero, suc, ◌+◌, ◌-◌, ◌≤◌, ◌<◌}
use Rattle.std.proofs.Math.Nat.{add-zero, add-suc, suc-add, le_refl}
use native.Mathlib.Omega.{arith}

-- the first of the n indices from i on that fails the test, or i + n where all pass
unfoldable pub scan : (ℕ → Bool) → ℕ → ℕ → ℕ
scan ok i zero = i
scan ok i (suc n) = cond (ok i) (scan ok (suc i) n) i

module _ (ok : ℕ → Bool) (n i : ℕ) where
  -- the index passes: the search goes on
  pub scan_pass : i < n → ok i ≡ true → scan ok i (n - i) ≡ scan ok (i + 1) (n - (i + 1))
  unfolding scan
  scan_pass l h = let e : n - i ≡ suc (n - (i + 1)) = omega arith in rw (e, h, add-one)

  -- the index fails: it is the answer
  pub scan_fail : i < n → ok i ≡ false → scan ok i (n - i) ≡ i
  unfolding scan
  scan_fail l h = let e : n - i ≡ suc (n - (i + 1)) = omega arith in rw (e, h)

  -- no index is left
  pub scan_none : n ≤ i → scan ok i (n - i) ≡ i
  unfolding scan
  scan_none l = let e : n - i ≡ 0 = omega arith in rw e

module _ (ok : ℕ → Bool) where
  -- the answer lies from i on
  pub scan_from : (n i : ℕ) → i ≤ scan ok i n
  unfolding scan
  scan_from zero i = le_refl i
  scan_from (suc n) i = go (ok i) (scan_from n (suc i))
    where
      go : (b : Bool) → suc i ≤ scan ok (suc i) n → i ≤ cond b (scan ok (suc i) n) i
      go true h = omega arith
      go false h = le_refl i

  -- and at most at i + n
  pub scan_to : (n i : ℕ) → scan ok i n ≤ i + n
  unfolding scan
  scan_to zero i = omega arith
  scan_to (suc n) i = go (ok i) (scan_to n (suc i))
    where
      go : (b : Bool) → scan ok (suc i) n ≤ suc i + n → cond b (scan ok (suc i) n) i ≤ i + suc n
      go true h = omega arith
      go false h = omega arith

  -- where the search runs through, every index passes
  pub scan_all : (n i : ℕ) → i + n ≤ scan ok i n → (k : ℕ) → k < n → ok (i + k) ≡ true
  unfolding scan
  scan_all zero i e k l = absurd (not-suc-le-zero l)
  scan_all (suc n) i e k l = go (ok i) refl (λ h j m. scan_all n (suc i) h j m) e k l
    where
      go : (b : Bool) → ok i ≡ b → (suc i + n ≤ scan ok (suc i) n → (j : ℕ) → j < n → ok (suc i + j) ≡ true) →
          i + suc n ≤ cond b (scan ok (suc i) n) i → (j : ℕ) → j < suc n → ok (i + j) ≡ true
      go true p f q zero m = rw add-zero p
      go true p f q (suc j) m =
          let step : ok (suc i + j) ≡ true = f (omega arith) j (omega arith) in
          rw add-suc (rw suc-add at step)
      go false p f q j m = absurd (omega arith)

-- a search that stops before the end stops at an index that fails
pub scan_stops : (ok : ℕ → Bool) (n i : ℕ) → scan ok i n < i + n → ok (scan ok i n) ≡ false
unfolding scan
scan_stops ok zero i h = absurd (omega arith)
scan_stops ok (suc n) i h = go (ok i) refl h (λ l. scan_stops ok n (suc i) l)
  where
    go : (b : Bool) → ok i ≡ b → cond b (scan ok (suc i) n) i < i + suc n → (scan ok (suc i) n < suc i + n → ok (scan ok (suc i) n) ≡ false) →
        ok (cond b (scan ok (suc i) n) i) ≡ false
    go true e l r = r (omega arith)
    go false e l r = e

-- tests that agree on every index find the same
pub scan_same : (f g : ℕ → Bool) (n i : ℕ) → ((k : ℕ) → k < n → f (i + k) ≡ g (i + k)) → scan f i n ≡ scan g i n
unfolding scan
scan_same f g zero i h = refl
scan_same f g (suc n) i h =
    let first : f i ≡ g i = rw add-zero at (h 0 (omega arith)) in
    let rest : scan f (suc i) n ≡ scan g (suc i) n = scan_same f g n (suc i) (λ k l. rw (add-suc, ← suc-add) at (h (suc k) (omega arith))) in
    ap (λ b. cond b (scan f (suc i) n) i) first ∙ ap (λ x. cond (g i) x i) rest
