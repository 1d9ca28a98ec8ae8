-- A file in pieces comes to what it comes to as a whole: a piece, and behind it the bytes that it left and all that follow. Assumes nothing.
use Prim.Native.Nat.{ℕ, ◌+◌, ◌-◌, ◌≤◌, ◌<◌}
use mathlib.Core.Bool.{true, false}
use mathlib.Core.Path.{◌≡◌, refl, sym, ap, subst, ◌∙◌}
use mathlib.Core.List.{List, [], ◌++◌, append_assoc}
use native.Mathlib.Nat.{zero-add, le_refl}
use native.Mathlib.Omega.{arith}
use lib.ListN.{length, take, drop, length-drop, length-append}
use lib.Seq.{drop-drop, take-append-le, drop-append-le}
use borrow.Author.Tests.{le-leb}
use Rattle.day_records.specs.Records.{is_formed, body_of, Length, counts, broken, missing, length_of, length_at, record_of, record_at, behind}
use Rattle.day_records.proofs.DayLaws.{same_length, same_record}
use Rattle.day_records.proofs.FormedLaws.{counted_of}
use Rattle.day_rescue.specs.declared.Run.{Run}
use Rattle.day_rescue.specs.Rescue.{run, past, listed, Walk, before, between, walk, closed, last_place}
use Rattle.day_rescue.proofs.WalkLaws.{ends_behind, ends_inside, walk_stops, walk_drops, walk_keeps, before_before, every_walk}
use Rattle.day_rescue.proofs.BoundLaws.{walk_within}

-- ---- bytes that follow do not matter where the longest record is there

module _ (a b : List ℕ) (i : ℕ) (h : i + 516 ≤ length a) where
  more_length : length_at (a ++ b) i ≡ length_at a i
  unfolding length_at
  more_length =
      let d = length-drop i a in
      ap length_of (ap (take 4) (drop-append-le i a b (omega (arith, h))) ∙ take-append-le 4 (drop i a) b (omega (arith, d, h)))

  more_record : record_at (a ++ b) i ≡ record_at a i
  unfolding record_at length_at
  more_record = ap (λ w. record_of w (drop (i + 4) (a ++ b))) more_length ∙ go (length_at a i) refl
    where
      go : (w : Length) → w ≡ length_at a i → record_of w (drop (i + 4) (a ++ b)) ≡ record_of w (drop (i + 4) a)
      go broken e = refl
      go missing e = refl
      go (counts n) e =
          let f = (counted_of (take 4 (drop i a)) n e).few in
          let x = drop-append-le (i + 4) a b (omega (arith, h)) in
          let c = length-drop (i + 4) a in
          let k = length-append (drop (i + 4) a) b in
          rw (x, le-leb n (length (drop (i + 4) a ++ b)) (omega (arith, f, c, k, h)), le-leb n (length (drop (i + 4) a)) (omega (arith, f, c, h)))
          (ap body_of (take-append-le n (drop (i + 4) a) b (omega (arith, f, c, h))))

before_none : (w : Walk) → w ≡ before [] 0 [] w
before_none w = rw (zero-add w.records)

-- ---- a piece's walk is the first part of the whole's

module _ (a b : List ℕ) where
  abbrev All : List ℕ
  All = a ++ b

  abbrev Stop : ℕ
  Stop = last_place false (length a)

  stop_inside : Stop ≤ length a
  stop_inside = omega arith

  all_long : length a ≤ length All
  all_long = let l = length-append a b in omega (arith, l)

  abbrev Whole : ℕ → Run → Walk
  Whole i r = walk All (length All) i r

  -- what the piece came to, and then the rest
  abbrev Then : ℕ → Run → Walk → Type 0
  Then i r w = Whole i r ≡ before w.kept w.records w.dropped (Whole w.at w.pending)

  piece_first : (i : ℕ) (r : Run) → Then i r (walk a Stop i r)
  piece_first =
      every_walk a Stop stop_inside Then (λ i r h. before_none (Whole i r))
      (λ i r w l f t.
      let k : i + 516 ≤ length a = omega (arith, l) in
      let u : i < length All = omega (arith, k, all_long) in
      let j = behind i (length_at a i) in
      let n : i + 6 ≤ j = ends_behind a i f in
      let q = run (past r + (j - i)) 0 in
      let c : between All i j ≡ between a i j =
      let d = length-drop i a in let e = ends_inside a i f in
      ap (take (j - i)) (drop-append-le i a b (omega (arith, k))) ∙ take-append-le (j - i) (drop i a) b (omega (arith, d, e, n)) in
      let step : Whole i r ≡ before (between a i j) 1 (listed r) (Whole j q) =
      walk_keeps All (length All) (le_refl (length All)) i r u (ap is_formed (more_record a b i k) ∙ f) ∙
      (ap (λ x. before (between All i (behind i x)) 1 (listed r) (Whole (behind i x) (run (past r + (behind i x - i)) 0))) (more_length a b i k) ∙
      ap (λ x. before x 1 (listed r) (Whole j q)) c) in
      step ∙ (ap (before (between a i j) 1 (listed r)) t ∙
      before_before (between a i j) w.kept 1 w.records (listed r) w.dropped (Whole w.at w.pending)))
      (λ i r w l f t.
      let k : i + 516 ≤ length a = omega (arith, l) in
      let u : i < length All = omega (arith, k, all_long) in
      walk_drops All (length All) (le_refl (length All)) i r u (ap is_formed (more_record a b i k) ∙ f) ∙ t)

-- ---- from a place on, a walk is that over the bytes from there on

-- all but where it stops
pub record Same (v w : Walk) : Type 0 where
  pub kept : v.kept ≡ w.kept
  pub records : v.records ≡ w.records
  pub dropped : v.dropped ≡ w.dropped
  pub pending : v.pending ≡ w.pending

module _ (s : List ℕ) (i : ℕ) (inside : i ≤ length s) where
  abbrev Rest : List ℕ
  Rest = drop i s

  rest_long : i + length Rest ≡ length s
  rest_long = let d = length-drop i s in omega (arith, d, inside)

  same_before : (x : List ℕ) (n : ℕ) (rs : List Run) (v w : Walk) → Same v w → Same (before x n rs v) (before x n rs w)
  same_before x n rs v w t = record { kept = ap (x ++◌) t.kept; records = ap (λ k. n + k) t.records; dropped = ap (rs ++◌) t.dropped; pending = t.pending }

  behind_slides : (k : ℕ) (w : Length) → behind (i + k) w ≡ i + behind k w
  behind_slides k (counts n) = omega arith
  behind_slides k broken = refl
  behind_slides k missing = refl

  slides : (k : ℕ) (r : Run) → Same (walk s (length s) (i + k) r) (walk Rest (length Rest) k r)
  slides =
      every_walk Rest (length Rest) (le_refl (length Rest)) (λ k r w. Same (walk s (length s) (i + k) r) w)
      (λ k r h.
      let l : length s ≤ i + k = omega (arith, h, rest_long) in
      rw (walk_stops s (length s) (le_refl (length s)) (i + k) r l) (record { kept = refl; records = refl; dropped = refl; pending = refl }))
      (λ k r w l f t.
      let u : i + k < length s = omega (arith, l, rest_long) in
      let j = behind k (length_at Rest k) in
      let q = run (past r + (j - k)) 0 in
      let due : behind (i + k) (length_at s (i + k)) ≡ i + j = ap (behind (i + k)) (same_length s i k) ∙ behind_slides k (length_at Rest k) in
      let z : i + j - (i + k) ≡ j - k = omega arith in
      let step : walk s (length s) (i + k) r ≡ before (between Rest k j) 1 (listed r) (walk s (length s) (i + j) q) =
      walk_keeps s (length s) (le_refl (length s)) (i + k) r u (ap is_formed (same_record s i k) ∙ f) ∙
      (ap (λ x. before (between s (i + k) x) 1 (listed r) (walk s (length s) x (run (past r + (x - (i + k))) 0))) due ∙
      (ap (λ x. before (take x (drop (i + k) s)) 1 (listed r) (walk s (length s) (i + j) (run (past r + x) 0))) z ∙
      ap (λ x. before (take (j - k) x) 1 (listed r) (walk s (length s) (i + j) q)) (sym (drop-drop k i s)))) in
      rw step (same_before (between Rest k j) 1 (listed r) (walk s (length s) (i + j) q) w t))
      (λ k r w l f t.
      let u : i + k < length s = omega (arith, l, rest_long) in
      let e : i + k + 1 ≡ i + (k + 1) = omega arith in
      rw (walk_drops s (length s) (le_refl (length s)) (i + k) r u (ap is_formed (same_record s i k) ∙ f), e) t)

-- ---- a piece, then all that is left and all that comes

same_closed : (v w : Walk) → Same v w → Same (closed true v) (closed true w)
same_closed v w t =
    record {
      kept = t.kept;
      records = t.records;
      dropped = ap (λ x. x ++ listed v.pending) t.dropped ∙ ap (λ x. w.dropped ++ listed x) t.pending;
      pending = ap (λ x. run (past x) 0) t.pending;
    }

same_then : (u v w : Walk) → Same u v → Same v w → Same u w
same_then u v w p q =
    record { kept = p.kept ∙ q.kept; records = p.records ∙ q.records; dropped = p.dropped ∙ q.dropped; pending = p.pending ∙ q.pending }

closed_before : (x : List ℕ) (n : ℕ) (rs : List Run) (w : Walk) → Same (closed true (before x n rs w)) (before x n rs (closed true w))
closed_before x n rs w = record { kept = refl; records = refl; dropped = append_assoc rs w.dropped (listed w.pending); pending = refl }

pub in_pieces : (a b : List ℕ) (r : Run) → let w = walk a (last_place false (length a)) 0 r in let rest = drop w.at a ++ b in
    Same (closed true (walk (a ++ b) (length (a ++ b)) 0 r)) (before w.kept w.records w.dropped (closed true (walk rest (length rest) 0 w.pending)))
in_pieces a b r =
    let w = walk a (last_place false (length a)) 0 r in
    let p = w.pending in
    let i : w.at ≤ length a = (walk_within a (last_place false (length a)) (omega arith) 0 r (omega arith)).inside in
    let z : w.at + 0 ≡ w.at = omega arith in
    let l : w.at ≤ length (a ++ b) = omega (arith, i, length-append a b) in
    let s : Same (walk (a ++ b) (length (a ++ b)) w.at p) (walk (drop w.at a ++ b) (length (drop w.at a ++ b)) 0 p) =
    subst (λ x. Same (walk (a ++ b) (length (a ++ b)) w.at p) (walk x (length x) 0 p)) (drop-append-le w.at a b i)
    (subst (λ n. Same (walk (a ++ b) (length (a ++ b)) n p) (walk (drop w.at (a ++ b)) (length (drop w.at (a ++ b))) 0 p)) z
    (slides (a ++ b) w.at l 0 p)) in
    rw (piece_first a b 0 r)
    (same_then _ _ _ (closed_before w.kept w.records w.dropped _) (same_before (a ++ b) w.at l w.kept w.records w.dropped _ _ (same_closed _ _ s)))
