-- A gate day read from its start: four bytes, then as many as they count, and again. Assumes nothing.
use mathlib.Core.Path.{◌≡◌, refl, sym, ap, ◌∙◌}
use mathlib.Core.List.{List, []}
use Prim.Native.Nat.{ℕ, zero, suc, ◌+◌, ◌≤◌, ◌<◌}
use native.Mathlib.Omega.{arith}
use lib.ListN.{length, take, drop, length-take, length-drop}
use lib.Seq.{drop-drop}
use borrow.Author.Tests.{le-leb, lt-leb, eq-eqb}
use Rattle.day_records.specs.Records.{cut, over, Length, counts, broken, missing, length_of, length_at, body_of, record_of, record_at, behind, goes_on, records_in, records_from}

module _ (s : List ℕ) (i : ℕ) where
  -- the bytes that the length counts are there: they make the record
  pub record_there : {n : ℕ} → counts n ≡ length_at s i → n ≤ length (drop (i + 4) s) → record_at s i ≡ body_of (take n (drop (i + 4) s))
  unfolding record_at
  record_there e h = rw (← e, le-leb _ _ h)

  -- some are not
  pub record_short : {n : ℕ} → counts n ≡ length_at s i → length (drop (i + 4) s) < n → record_at s i ≡ cut
  unfolding record_at
  record_short e h = rw (← e, lt-leb _ _ h)

  pub record_broken : broken ≡ length_at s i → record_at s i ≡ cut
  unfolding record_at
  record_broken e = rw (← e)

  pub record_over : missing ≡ length_at s i → record_at s i ≡ over
  unfolding record_at
  record_over e = rw (← e)

-- no byte is left
pub none_left : (s : List ℕ) (i : ℕ) → length s ≤ i → missing ≡ length_at s i
unfolding length_at length_of
none_left s i h =
    let z : length (take 4 (drop i s)) ≡ 0 = length-take 4 (drop i s) ∙ omega (arith, length-drop i s) in
    rw (eq-eqb _ _ z)

-- how many turns are left does not matter, once they are as many as the bytes
pub turns : (s : List ℕ) (m n i : ℕ) → length s ≤ i + m → length s ≤ i + n → records_in m s i ≡ records_in n s i
unfolding records_in
turns s zero zero i h k = refl
turns s zero (suc n) i h k = rw (record_over s i (none_left s i (omega arith)))
turns s (suc m) zero i h k = rw (record_over s i (none_left s i (omega arith)))
turns s (suc m) (suc n) i h k = go (length_at s i) refl λ j l. turns s m n j (omega arith) (omega arith)
  where
    go : (w : Length) → w ≡ length_at s i → ((j : ℕ) → i < j → records_in m s j ≡ records_in n s j) →
        goes_on (record_at s i) (records_in m s (behind i w)) ≡ goes_on (record_at s i) (records_in n s (behind i w))
    go (counts l) e f = ap (goes_on (record_at s i)) (f (i + 4 + l) (omega arith))
    go broken e f = rw (record_broken s i e)
    go missing e f = rw (record_over s i e)

-- the records from a place on: the one there, and where the run goes on those behind it
pub records_step : (s : List ℕ) (i : ℕ) → records_from s i ≡ goes_on (record_at s i) (records_from s (behind i (length_at s i)))
unfolding records_from records_in
records_step s i = turns s (length s) (suc (length s)) i (omega arith) (omega arith)

-- ---- from a place on, a day is the part behind that place

module _ (s : List ℕ) (i j : ℕ) where
  pub same_length : length_at s (i + j) ≡ length_at (drop i s) j
  unfolding length_at
  same_length = ap (λ l. length_of (take 4 l)) (sym (drop-drop j i s))

  pub same_record : record_at s (i + j) ≡ record_at (drop i s) j
  unfolding record_at
  same_record =
      let e : i + j + 4 ≡ i + (j + 4) = omega arith in
      ap (λ w. record_of w (drop (i + j + 4) s)) same_length ∙ ap (record_of (length_at (drop i s) j)) (ap (λ n. drop n s) e ∙ sym (drop-drop (j + 4) i s))

same_in : (n : ℕ) (s : List ℕ) (i j : ℕ) → records_in n s (i + j) ≡ records_in n (drop i s) j
unfolding records_in
same_in zero s i j = ap (λ r. goes_on r []) (same_record s i j)
same_in (suc n) s i j =
    ap (λ r. goes_on r (records_in n s (behind (i + j) (length_at s (i + j))))) (same_record s i j) ∙
    (ap (λ w. goes_on (record_at (drop i s) j) (records_in n s (behind (i + j) w))) (same_length s i j) ∙ ap (goes_on (record_at (drop i s) j)) (go (length_at (drop i s) j) λ k. same_in n s i k))
  where
    go : (w : Length) → ((k : ℕ) → records_in n s (i + k) ≡ records_in n (drop i s) k) → records_in n s (behind (i + j) w) ≡ records_in n (drop i s) (behind j w)
    go (counts l) f = let e : i + j + 4 + l ≡ i + (j + 4 + l) = omega arith in ap (records_in n s) e ∙ f (j + 4 + l)
    go broken f = f j
    go missing f = f j

pub records_behind : (s : List ℕ) (i : ℕ) → records_from s i ≡ records_from (drop i s) 0
unfolding records_from
records_behind s i =
    let e = length-drop i s in
    let z : i ≡ i + 0 = omega arith in
    ap (records_in (length s) s) z ∙ (same_in (length s) s i 0 ∙ turns (drop i s) (length s) (length (drop i s)) 0 (omega (arith, e)) (omega arith))
