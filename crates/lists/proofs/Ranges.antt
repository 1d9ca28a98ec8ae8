-- Those of a range of numbers that pass: the first, the lowest, how often each. Assumes nothing.
use Rattle.std.specs.Prelude.{◌≡◌, ◌⊎◌, Bool, ◌&&◌, eqb, ltb, leb}
use Rattle.std.proofs.Math.Path.{refl, ap}
use Rattle.std.proofs.Common.{sym, ◌∙◌, inl, inr, add-one}
use Rattle.std.proofs.Math.Logic.{⊎_elim}
use Rattle.std.proofs.Math.Bool.{true, false, cond}
use mathlib.Core.List.{List, [], ◌∷◌}
use Rattle.std.proofs.Math.Option.{some}
use Prim.Native.Nat.{ℕ, suc, ◌+◌, ◌-◌, ◌≤◌, ◌<◌}
use native.Mathlib.Omega.{arith}
use Rattle.std.proofs.Math.ListN.{length}
use borrow.Author.Tests.{lt-ltb, le-ltb, le-leb, lt-leb, eq-eqb, ne_eqb}
use Rattle.lists.specs.Tests.{same?, which, below?, and_no, or_yes}
use Rattle.lists.specs.Lists.{keep, any, every, count, from}
use Rattle.lists.specs.Ranges.{first, one, any_count, ascending, ascend_less, ranges, those, those_no, those_end, Lowest, those_none, both, either}

-- ---- counting

module _ {A : Type 0} (p : A → Bool) where
  -- those counted are those kept
  pub count_keep : (l : List A) → count p l ≡ length (keep p l)
  unfolding count keep
  count_keep [] = refl
  count_keep (a ∷ l) = go (p a) (count_keep l)
    where
      go : (b : Bool) → count p l ≡ length (keep p l) → cond b (suc (count p l)) (count p l) ≡ length (cond b (a ∷ keep p l) (keep p l))
      go true r = ap suc r
      go false r = r

  -- what follows from the test holds of each that is kept
  pub every_keep : (q : A → Bool) → ((a : A) → p a ≡ true → q a ≡ true) → (l : List A) → every q (keep p l) ≡ true
  unfolding every keep
  every_keep q f [] = refl
  every_keep q f (a ∷ l) = ⊎_elim (λ (y : p a ≡ true). rw y (simp (f a y) (every_keep q f l))) (λ (y : p a ≡ false). rw y (every_keep q f l)) (which (p a))

-- ---- ranges of numbers

module _ (p : ℕ → Bool) (n i : ℕ) where
  pub those_yes : i < n → p i ≡ true → those p i n ≡ i ∷ those p (i + 1) n
  unfolding those keep from
  those_yes h e = let d : n - i ≡ suc (n - (i + 1)) = omega arith in rw (d, e, add-one)

module _ (p : ℕ → Bool) (n : ℕ) where
  -- one number down: it passes, or the lowest is as before
  lowest_here : (i : ℕ) → i < n → p i ≡ true → Lowest p n i i
  lowest_here i h y = record { from = omega arith; below = h; passes = y; before = λ j a b. absurd (omega arith) }

  lowest_more : (i m : ℕ) → p i ≡ false → Lowest p n (i + 1) m → Lowest p n i m
  lowest_more i m y r =
      record {
        from = omega (arith, r.from);
        below = r.below;
        passes = r.passes;
        before = λ j a b. ⊎_elim (λ (s : j ≡ i). ap p s ∙ y) (λ (s : j ≡ i → ⊥). r.before j (omega (arith, s)) b) (same? j i);
      }

  -- the first of them is the lowest
  pub those_first : (m i : ℕ) → first (those p i n) ≡ some m → Lowest p n i m
  those_first m =
      ranges n (λ i. first (those p i n) ≡ some m → Lowest p n i m)
      (λ i h e. absurd (let t = those_end p n i h in let z : ◌≡◌ {A = ℕ} 0 1 = cc in omega arith))
      λ i h r e.
      ⊎_elim
      (λ (y : p i ≡ true). let t = those_yes p n i h y in let s : i ≡ m = cc in rw (← s) (lowest_here i h y))
      (λ (y : p i ≡ false). lowest_more i m y (r (ap first (sym (those_no p n i h y)) ∙ e)))
      (which (p i))

  -- the lowest is the first of them, and those above it are the rest
  pub those_lowest : (m i : ℕ) → Lowest p n i m → those p i n ≡ m ∷ those p (m + 1) n
  those_lowest m =
      ranges n (λ i. Lowest p n i m → those p i n ≡ m ∷ those p (m + 1) n)
      (λ i h l. absurd (omega (arith, l.from, l.below)))
      λ i h r l.
      ⊎_elim (λ (s : i ≡ m). rw s (those_yes p n m l.below l.passes))
      (λ (s : i ≡ m → ⊥).
      those_no p n i h (l.before i (omega arith) (omega (arith, s, l.from))) ∙
      r (record { from = omega (arith, s, l.from); below = l.below; passes = l.passes; before = λ j a b. l.before j (omega arith) b }))
      (same? i m)

  pub those_empty : (j : ℕ) → j < n → (i : ℕ) → those p i n ≡ [] → i ≤ j → p j ≡ false
  those_empty j b =
      ranges n (λ i. those p i n ≡ [] → i ≤ j → p j ≡ false) (λ i h e a. absurd (omega arith))
      λ i h r e a.
      ⊎_elim (λ (y : p i ≡ true). absurd (let t = those_yes p n i h y in let z : ◌≡◌ {A = ℕ} 0 1 = cc in omega arith))
      (λ (y : p i ≡ false). ⊎_elim (λ (s : j ≡ i). ap p s ∙ y) (λ (s : j ≡ i → ⊥). r (sym (those_no p n i h y) ∙ e) (omega (arith, s))) (same? j i))
      (which (p i))

  -- no more than there are numbers
  pub those_fit : (i : ℕ) → length (those p i n) ≤ n - i
  those_fit =
      ranges n (λ i. length (those p i n) ≤ n - i) (λ i h. rw (those_end p n i h) (omega arith))
      λ i h r. ⊎_elim (λ (y : p i ≡ true). rw (those_yes p n i h y) (omega arith)) (λ (y : p i ≡ false). rw (those_no p n i h y) (omega arith)) (which (p i))

  -- k is among them once if it lies in the range and passes, and else not at all
  pub those_count : (k i : ℕ) → count (eqb k) (those p i n) ≡ one (leb i k && (ltb k n && p k))
  unfolding count
  those_count k =
      ranges n Among
      (λ i h. rw (those_end p n i h) (⊎_elim (λ (g : k < n). rw (lt-leb i k (omega arith))) (λ (g : n ≤ k). rw (le-ltb k n g, and_no (leb i k))) (below? k n)))
      λ i h r. ⊎_elim (λ (s : k ≡ i). here i h s (which (p i)) r) (λ (s : k ≡ i → ⊥). rest i h s (which (p i)) r) (same? k i)
    where
      Among : ℕ → Type 0
      Among i = count (eqb k) (those p i n) ≡ one (leb i k && (ltb k n && p k))

      here : (i : ℕ) → i < n → k ≡ i → (p i ≡ true) ⊎ (p i ≡ false) → Among (i + 1) → Among i
      here i h s (inl y) r =
          let e : count (eqb k) (those p (i + 1) n) ≡ 0 = r ∙ rw (s, lt-leb (i + 1) i (omega arith)) in
          rw (those_yes p n i h y, eq-eqb k i s, e) (simp (s, le-leb i i (omega arith), lt-ltb i n h, y))
      here i h s (inr y) r = rw (those_no p n i h y) (r ∙ simp (s, lt-leb (i + 1) i (omega arith), le-leb i i (omega arith), lt-ltb i n h, y))

      on : (i : ℕ) → (k ≡ i → ⊥) → leb (i + 1) k ≡ leb i k
      on i s =
          ⊎_elim (λ (g : k < i). lt-leb (i + 1) k (omega arith) ∙ sym (lt-leb i k g))
          (λ (g : i ≤ k). le-leb (i + 1) k (omega (arith, s)) ∙ sym (le-leb i k g)) (below? k i)

      rest : (i : ℕ) → i < n → (k ≡ i → ⊥) → (p i ≡ true) ⊎ (p i ≡ false) → Among (i + 1) → Among i
      rest i h s (inl y) r = rw (those_yes p n i h y) (simp (ne_eqb k i s) (r ∙ rw (on i s)))
      rest i h s (inr y) r = rw (those_no p n i h y) (r ∙ rw (on i s))

  pub those_any : (k i : ℕ) → any (eqb k) (those p i n) ≡ (leb i k && (ltb k n && p k))
  those_any k i = any_count (eqb k) (those p i n) ∙ rw (those_count k i) (some_one (leb i k && (ltb k n && p k)))
    where
      some_one : (b : Bool) → ltb 0 (one b) ≡ b
      some_one true = refl
      some_one false = refl

  -- each is above the one before it
  pub those_ascend : (i : ℕ) → ascending i (those p i n) ≡ true
  unfolding ascending
  those_ascend =
      ranges n (λ i. ascending i (those p i n) ≡ true) (λ i h. rw (those_end p n i h))
      λ i h r.
      ⊎_elim (λ (y : p i ≡ true). rw (those_yes p n i h y, le-leb i i (omega arith)) r)
      (λ (y : p i ≡ false). rw (those_no p n i h y) (ascend_less (those p (i + 1) n) i r)) (which (p i))

  -- some one of them passes a second test, or none does
  pub any_those : (q : ℕ → Bool) (j : ℕ) → p j ≡ true → q j ≡ true → j < n → (i : ℕ) → i ≤ j → any q (those p i n) ≡ true
  unfolding any
  any_those q j y x b =
      ranges n (λ i. i ≤ j → any q (those p i n) ≡ true) (λ i h a. absurd (omega arith))
      λ i h r a.
      ⊎_elim (λ (s : i ≡ j). rw (those_yes p n i h (ap p s ∙ y), ap q s ∙ x))
      (λ (s : i ≡ j → ⊥). ⊎_elim (λ (t : p i ≡ true). rw (those_yes p n i h t, r (omega (arith, s))) (or_yes (q i)))
      (λ (t : p i ≡ false). rw (those_no p n i h t) (r (omega (arith, s)))) (which (p i)))
      (same? i j)

  pub none_those : (q : ℕ → Bool) → ((j : ℕ) → j < n → p j ≡ true → q j ≡ false) → (i : ℕ) → any q (those p i n) ≡ false
  unfolding any
  none_those q f =
      ranges n (λ i. any q (those p i n) ≡ false) (λ i h. rw (those_end p n i h))
      λ i h r. ⊎_elim (λ (t : p i ≡ true). rw (those_yes p n i h t, f i h t) r) (λ (t : p i ≡ false). rw (those_no p n i h t) r) (which (p i))

-- the same test, the same numbers
pub those_same : (p q : ℕ → Bool) (n : ℕ) → ((j : ℕ) → j < n → p j ≡ q j) → (i : ℕ) → those p i n ≡ those q i n
those_same p q n f =
    ranges n (λ i. those p i n ≡ those q i n) (λ i h. those_end p n i h ∙ sym (those_end q n i h))
    λ i h r.
    ⊎_elim (λ (y : p i ≡ true). those_yes p n i h y ∙ ap (i ∷◌) r ∙ sym (those_yes q n i h (sym (f i h) ∙ y)))
    (λ (y : p i ≡ false). those_no p n i h y ∙ r ∙ sym (those_no q n i h (sym (f i h) ∙ y)))
    (which (p i))

module _ (p q : ℕ → Bool) (n : ℕ) where
  -- two tests, one after the other
  pub keep_those : (i : ℕ) → keep q (those p i n) ≡ those (both p q) i n
  unfolding keep
  keep_those =
      ranges n (λ i. keep q (those p i n) ≡ those (both p q) i n) (λ i h. rw (those_end p n i h, those_end (both p q) n i h))
      λ i h r. go i h (which (p i)) (which (q i)) r
    where
      go : (i : ℕ) → i < n → (p i ≡ true) ⊎ (p i ≡ false) → (q i ≡ true) ⊎ (q i ≡ false) →
          keep q (those p (i + 1) n) ≡ those (both p q) (i + 1) n → keep q (those p i n) ≡ those (both p q) i n
      go i h (inl y) (inl x) r = rw (those_yes p n i h y, those_yes (both p q) n i h (simp (y, x))) (simp x (ap (i ∷◌) r))
      go i h (inl y) (inr x) r = rw (those_yes p n i h y, those_no (both p q) n i h (simp (y, x))) (simp x r)
      go i h (inr y) t r = rw (those_no p n i h y, those_no (both p q) n i h (simp y)) r

  -- those of either, counted, and those of both
  pub count_either : (i : ℕ) → length (those (either p q) i n) + length (those (both p q) i n) ≡ length (those p i n) + length (those q i n)
  count_either =
      ranges n (λ i. length (those (either p q) i n) + length (those (both p q) i n) ≡ length (those p i n) + length (those q i n))
      (λ i h. rw (those_end p n i h, those_end q n i h, those_end (either p q) n i h, those_end (both p q) n i h))
      λ i h r. go i h (which (p i)) (which (q i)) r
    where
      go : (i : ℕ) → i < n → (p i ≡ true) ⊎ (p i ≡ false) → (q i ≡ true) ⊎ (q i ≡ false) →
          length (those (either p q) (i + 1) n) + length (those (both p q) (i + 1) n) ≡ length (those p (i + 1) n) + length (those q (i + 1) n) →
          length (those (either p q) i n) + length (those (both p q) i n) ≡ length (those p i n) + length (those q i n)
      go i h (inl y) (inl x) r =
          rw (those_yes p n i h y, those_yes q n i h x, those_yes (either p q) n i h (simp (y, x)), those_yes (both p q) n i h (simp (y, x))) (omega arith)
      go i h (inl y) (inr x) r =
          rw (those_yes p n i h y, those_no q n i h x, those_yes (either p q) n i h (simp (y, x)), those_no (both p q) n i h (simp (y, x))) (omega arith)
      go i h (inr y) (inl x) r =
          rw (those_no p n i h y, those_yes q n i h x, those_yes (either p q) n i h (simp (y, x)), those_no (both p q) n i h (simp (y, x))) (omega arith)
      go i h (inr y) (inr x) r =
          rw (those_no p n i h y, those_no q n i h x, those_no (either p q) n i h (simp (y, x)), those_no (both p q) n i h (simp (y, x))) (omega arith)

-- one number more
pub count_more : (p : ℕ → Bool) (n k : ℕ) → k < n → p k ≡ false → length (those (either p (λ j. eqb j k)) 0 n) ≡ length (those p 0 n) + 1
count_more p n k h f =
    let only : those is 0 n ≡ k ∷ [] =
    those_lowest is n k 0 (record { from = omega arith; below = h; passes = eq-eqb k k refl; before = λ j a b. ne_eqb j k (omega arith) }) ∙
    ap (k ∷◌) (those_none is n (k + 1) (λ j a b. ne_eqb j k (omega arith))) in
    let no : those (both p is) 0 n ≡ [] = those_none (both p is) n 0 (λ j a b. not_both j) in
    omega (arith, count_either p is n 0, ap length only, ap length no)
  where
    is : ℕ → Bool
    is j = eqb j k

    not_both : (j : ℕ) → both p is j ≡ false
    not_both j = ⊎_elim (λ (s : j ≡ k). rw (s, f)) (λ (s : j ≡ k → ⊥). rw (ne_eqb j k s) (and_no (p j))) (same? j k)
