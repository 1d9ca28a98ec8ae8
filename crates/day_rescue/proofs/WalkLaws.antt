-- The walk over the places of the bytes, turn by turn and many turns at once. Assumes nothing.
use Prim.Native.Nat.{ℕ, zero, suc, ◌+◌, ◌-◌, ◌≤◌, ◌<◌}
use mathlib.Core.Bool.{Bool, true, false, cond}
use mathlib.Core.Path.{◌≡◌, refl, sym, ap, ◌∙◌}
use mathlib.Core.Logic.{⊎_elim}
use mathlib.Core.List.{List, [], ◌++◌, append_assoc, append-nil}
use native.Mathlib.Nat.{add_assoc}
use native.Mathlib.Omega.{arith}
use lib.Dec.{leb}
use lib.ListN.{length, take, drop}
use lib.Seq.{take-add, drop-drop}
use borrow.Author.Tests.{le-leb, lt-leb}
use Rattle.lists.specs.Tests.{below?, which, yes_no}
use Rattle.day_records.specs.Records.{is_formed, length_at, record_at, behind}
use Rattle.day_records.proofs.FormedLaws.{formed_at, at_end, two_bytes, next_due}
use Rattle.std.specs.Prelude.{Some}
use Rattle.day_rescue.specs.declared.Run.{Run}
use Rattle.day_rescue.specs.Rescue.{run, past, longer, listed, Walk, stopped, before, between, walk_in, walk}
use Rattle.day_rescue.specs.Places.{Stands, None, Sized, Passed, Stretched}
use Rattle.day_rescue.proofs.PlaceLaws.{size_stands}

-- a record ends behind its place, and inside the bytes
module _ (s : List ℕ) (i : ℕ) (h : Stands s i) where
  pub ends_behind : i + 6 ≤ behind i (length_at s i)
  ends_behind = let f = formed_at s i h in let e = next_due s i f in let t = two_bytes s i f in omega (arith, e, t)

  pub ends_inside : behind i (length_at s i) ≤ length s
  ends_inside = let f = formed_at s i h in let e = next_due s i f in let l = at_end s i f in omega (arith, e, l)

-- one part before another
pub before_before : (a b : List ℕ) (n m : ℕ) (x y : List Run) (w : Walk) → before a n x (before b m y w) ≡ before (a ++ b) (n + m) (x ++ y) w
before_before a b n m x y w = rw (append_assoc a b w.kept, append_assoc x y w.dropped, add_assoc n m w.records)

between_between : (s : List ℕ) (i j k : ℕ) → i ≤ j → j ≤ k → between s i j ++ between s j k ≡ between s i k
between_between s i j k h l =
    let e : i + (j - i) ≡ j = omega arith in
    let g : k - i ≡ (j - i) + (k - j) = omega arith in
    rw g (sym (take-add (j - i) (k - j) (drop i s) ∙ ap (λ d. take (j - i) (drop i s) ++ take (k - j) d) (drop-drop (j - i) i s ∙ ap (λ n. drop n s) e)))

module _ (s : List ℕ) (end : ℕ) (inside : end ≤ length s) where
  -- how many turns are left does not matter, once they are as many as the bytes
  turns : (m n i : ℕ) (r : Run) → length s ≤ i + m → length s ≤ i + n → walk_in m s end i r ≡ walk_in n s end i r
  unfolding walk_in
  turns zero zero i r h k = refl
  turns zero (suc n) i r h k = rw (le-leb end i (omega arith))
  turns (suc m) zero i r h k = rw (le-leb end i (omega arith))
  turns (suc m) (suc n) i r h k =
      go (leb end i) (is_formed (record_at s i)) refl
      (λ j q l. turns m n j q (omega arith) (omega arith))
    where
      go : (b f : Bool) → f ≡ is_formed (record_at s i) → ((j : ℕ) (q : Run) → i < j → walk_in m s end j q ≡ walk_in n s end j q) →
          let j = behind i (length_at s i) in
          cond b (stopped i r) (cond f (before (between s i j) 1 (listed r) (walk_in m s end j (run (past r + (j - i)) 0))) (walk_in m s end (i + 1) (longer r))) ≡
          cond b (stopped i r) (cond f (before (between s i j) 1 (listed r) (walk_in n s end j (run (past r + (j - i)) 0))) (walk_in n s end (i + 1) (longer r)))
      go true f e t = refl
      go false true e t = ap (before (between s i (behind i (length_at s i))) 1 (listed r)) (t (behind i (length_at s i)) _ (let b = ends_behind s i (sym e) in omega (arith, b)))
      go false false e t = t (i + 1) (longer r) (omega arith)

  -- at its end; over a byte; over a record
  pub walk_stops : (i : ℕ) (r : Run) → end ≤ i → walk s end i r ≡ stopped i r
  unfolding walk walk_in
  walk_stops i r h = turns (length s) (suc (length s)) i r (omega arith) (omega arith) ∙ rw (le-leb end i h)

  pub walk_drops : (i : ℕ) (r : Run) → i < end → None s i → walk s end i r ≡ walk s end (i + 1) (longer r)
  unfolding walk walk_in
  walk_drops i r h f = turns (length s) (suc (length s)) i r (omega arith) (omega arith) ∙ rw (lt-leb end i h, f)

  pub walk_keeps : (i : ℕ) (r : Run) → i < end → Stands s i →
      let j = behind i (length_at s i) in walk s end i r ≡ before (between s i j) 1 (listed r) (walk s end j (run (past r + (j - i)) 0))
  unfolding walk walk_in
  walk_keeps i r h f = turns (length s) (suc (length s)) i r (omega arith) (omega arith) ∙ rw (lt-leb end i h, f)

  -- what holds at the end, and of a walk that goes on over a record or over a byte, holds of every walk
  module _ (P : ℕ → Run → Walk → Type 0) (stops : (i : ℕ) (r : Run) → end ≤ i → P i r (stopped i r))
      (keeps : (i : ℕ) (r : Run) (w : Walk) → i < end → Stands s i →
      let j = behind i (length_at s i) in P j (run (past r + (j - i)) 0) w → P i r (before (between s i j) 1 (listed r) w))
      (drops : (i : ℕ) (r : Run) (w : Walk) → i < end → None s i → P (i + 1) (longer r) w → P i r w) where
    from_here_lem : (m i : ℕ) (r : Run) → length s ≤ i + m → P i r (walk s end i r)
    from_here_lem zero i r h = let g : end ≤ i = omega (arith, h, inside) in rw (walk_stops i r g) (stops i r g)
    from_here_lem (suc m) i r h =
        ⊎_elim
        (λ b.
        ⊎_elim
        (λ f.
        let j = behind i (length_at s i) in
        let k = ends_behind s i f in
        let l : length s ≤ j + m = omega (arith, h, k) in
        rw (walk_keeps i r b f) (keeps i r (walk s end j (run (past r + (j - i)) 0)) b f (from_here_lem m j (run (past r + (j - i)) 0) l)))
        (λ f.
        let l : length s ≤ i + 1 + m = omega (arith, h) in
        rw (walk_drops i r b f) (drops i r (walk s end (i + 1) (longer r)) b f (from_here_lem m (i + 1) (longer r) l)))
        (which (is_formed (record_at s i))))
        (λ b. rw (walk_stops i r b) (stops i r b))
        (below? i end)

    pub every_walk : (i : ℕ) (r : Run) → P i r (walk s end i r)
    every_walk i r = from_here_lem (length s) i r (omega arith)

  -- over many bytes
  pub walk_passes : (n i : ℕ) (r : Run) → i + n ≤ end → Passed s i (i + n) → walk s end i r ≡ walk s end (i + n) (run r.place (r.length + n))
  walk_passes zero i r h p =
      let e : i ≡ i + 0 = omega arith in
      let g : r.length ≡ r.length + 0 = omega arith in
      ap (λ j. walk s end j r) e ∙ ap (λ l. walk s end (i + 0) (run r.place l)) g
  walk_passes (suc n) i r h p =
      let e : i + 1 + n ≡ i + suc n = omega arith in
      let g : r.length + 1 + n ≡ r.length + suc n = omega arith in
      walk_drops i r (omega arith) (p.none i (omega arith) (omega arith)) ∙
      (walk_passes n (i + 1) (longer r) (omega arith) (record { forward = omega arith; none = λ k a b. p.none k (omega arith) (omega arith) }) ∙
      (ap (λ j. walk s end j (run r.place (r.length + 1 + n))) e ∙ ap (λ l. walk s end (i + suc n) (run r.place l)) g))

  -- over many records: none yet, and one more
  pub stretch_none : (i : ℕ) → i ≤ length s → Stretched s end i i 0
  stretch_none i h = record { forward = omega arith; inside = h; few = omega arith; first = λ e. refl; long = λ l. absurd (omega (arith, l)); walks = λ l r. absurd (omega (arith, l)) }

  pub stretch_more : (from i n : ℕ) → i < end → Stands s i → Stretched s end from i n → Stretched s end from (behind i (length_at s i)) (n + 1)
  stretch_more from i n l f t =
      let j = behind i (length_at s i) in
      let b = ends_behind s i f in
      record {
        forward = omega (arith, b, t.forward);
        inside = ends_inside s i f;
        few = omega (arith, b, t.few);
        first = λ e. absurd (omega (arith, b, e, t.forward));
        long = λ g. omega (arith, b, t.forward);
        walks = λ g r. ⊎_elim (λ k. more k r) (λ k. one (omega (arith, k, t.forward)) r) (below? from i);
      }
    where
      one : from ≡ i → (r : Run) → let j = behind i (length_at s i) in walk s end from r ≡ before (between s from j) (n + 1) (listed r) (walk s end j (run (past r + (j - from)) 0))
      one e r = rw (e, t.first (sym e)) (walk_keeps i r l f)

      more : from < i → (r : Run) → let j = behind i (length_at s i) in walk s end from r ≡ before (between s from j) (n + 1) (listed r) (walk s end j (run (past r + (j - from)) 0))
      more k r =
          let j = behind i (length_at s i) in
          let q = run (past r + (i - from)) 0 in
          let b = ends_behind s i f in
          let e : past q + (j - i) ≡ past r + (j - from) = omega (arith, k, b) in
          t.walks k r ∙
          (ap (before (between s from i) n (listed r)) (walk_keeps i q l f) ∙
          (before_before (between s from i) (between s i j) n 1 (listed r) [] _ ∙
          (ap (λ x. before x (n + 1) (listed r ++ []) (walk s end j (run (past q + (j - i)) 0))) (between_between s from i j (omega (arith, k)) (omega (arith, b))) ∙
          (ap (λ x. before (between s from j) (n + 1) x (walk s end j (run (past q + (j - i)) 0))) (append-nil (listed r)) ∙
          ap (λ p. before (between s from j) (n + 1) (listed r) (walk s end j (run p 0))) e))))

  -- by the size that the code finds
  module _ {from i n k : ℕ} (t : Stretched s end from i n) (z : Sized s i (Some k)) where
    pub size_ends : i + k ≡ behind i (length_at s i)
    size_ends = let e = z.1 in let g = size_stands s i z.0 in let b = ends_behind s i z.0 in omega (arith, e, g, b)

    pub size_some : 6 ≤ k
    size_some = let b = ends_behind s i z.0 in omega (arith, size_ends, b)

    pub size_inside : i + k ≤ length s
    size_inside = let g = ends_inside s i z.0 in omega (arith, g, size_ends)

    pub stretch_next : i < end → Stretched s end from (i + k) (n + 1)
    stretch_next l = rw size_ends (stretch_more from i n l z.0 t)

  pub stretch_goes : {from i n : ℕ} → Stretched s end from i n → None s i → Stands s from → from < i
  stretch_goes {from} {i} t z f = ⊎_elim (λ h. h) (λ h. let e : from ≡ i = omega (arith, h, t.forward) in absurd (yes_no (rw e at f) z)) (below? from i)
