-- What the code's tests say of a place. Assumes nothing.
use Prim.Native.Nat.{ℕ, suc, ◌+◌, ◌-◌, ◌≤◌, ◌<◌, min}
use mathlib.Core.Bool.{Bool, true, false}
use mathlib.Core.Path.{◌≡◌, refl, sym, ap, ◌∙◌}
use mathlib.Core.Logic.{⊎_elim}
use mathlib.Core.List.{List, [], ◌∷◌}
use native.Mathlib.Omega.{arith}
use lib.Dec.{ltb}
use lib.ListN.{length, get_or, take, drop, length-take, length-drop}
use lib.Seq.{drop-cons}
use borrow.Author.Tests.{ltb-true}
use Rattle.lists.specs.Tests.{which, below?, yes_no}
use Rattle.table_rows.specs.Bytes.{be}
use Rattle.day_records.specs.Records.{is_formed, body_of, op_of, pop_of, Length, length_of, length_at, record_at, behind, counts, broken, missing}
use Rattle.day_records.proofs.Laws.{length_counts}
use Rattle.day_records.proofs.DayLaws.{record_there, record_short, record_broken, record_over}
use Rattle.day_records.proofs.FormedLaws.{formed_at, at_first, at_second, at_version, at_op, at_end, two_bytes, next_due, four_are, head_byte}
use Rattle.std.specs.Prelude.{Option, Some, is_some}
use Rattle.std.specs.Prelude as code
use Rattle.day_rescue.specs.Places.{Stands, None, size_at, Sized, Barren, Passed, RoomyEnd, Skipped}

none_by : (s : List ℕ) (i : ℕ) → (Stands s i → ⊥) → None s i
none_by s i n = ⊎_elim (λ e. absurd (n e)) (λ e. e) (which (is_formed (record_at s i)))

-- ---- two places at once

module _ (s : List ℕ) (i : ℕ) where
  pub second_some : (get_or s (i + 1) 0 ≡ 0 → ⊥) → Barren s i
  second_some n = record { here = none_by s i (λ h. n (at_second s i (formed_at s i h))); next = none_by s (i + 1) (λ h. n (at_first s (i + 1) (formed_at s (i + 1) h))) }

  pub no_op_there : (0 < get_or s (i + 5) 0 → get_or s (i + 5) 0 ≤ 6 → ⊥) → Barren s i
  no_op_there n =
      let e : i + 1 + 4 ≡ i + 5 = omega arith in
      record {
        here = none_by s i (λ h. let o = at_op s i (formed_at s i h) in n o.0 o.1);
        next = none_by s (i + 1) (λ h. let v = at_version s (i + 1) (formed_at s (i + 1) h) in let g = rw e at v in n (omega (arith, g)) (omega (arith, g)));
      }

  pub op_over_there : ltb 6 (get_or s (i + 5) 0) ≡ true → Barren s i
  op_over_there t = let g = ltb-true 6 (get_or s (i + 5) 0) t in no_op_there (λ l h. omega (arith, h, g))

-- ---- places that are passed over

pub passed_none : (s : List ℕ) (i : ℕ) → Passed s i i
passed_none s i = record { forward = omega arith; none = λ k a b. absurd (omega (arith, a, b)) }

pub passed_then : {s : List ℕ} {i j k : ℕ} → Passed s i j → Passed s j k → Passed s i k
passed_then {s} {i} {j} {k} p q =
    record {
      forward = omega (arith, p.forward, q.forward);
      none = λ n a b. ⊎_elim (λ h. p.none n a h) (λ h. q.none n h b) (below? n j);
    }

pub passed_one : {s : List ℕ} {i j : ℕ} → Passed s i j → None s j → Passed s i (j + 1)
passed_one {s} {i} {j} p n =
    passed_then p (record { forward = omega arith; none = λ k a b. let e : k ≡ j = omega (arith, a, b) in rw e n })

pub passed_two : {s : List ℕ} {i j : ℕ} → Passed s i j → Barren s j → Passed s i (j + 2)
passed_two {s} {i} {j} p b = let e : j + 1 + 1 ≡ j + 2 = omega arith in rw (← e) (passed_one (passed_one p b.here) b.next)

pub passed_end : {s : List ℕ} {end stop i j : ℕ} → i ≤ end → Passed s i j → stop ≤ j → RoomyEnd s end stop → Skipped s end i end
passed_end {s} {end} {stop} {i} {j} h p l r =
    record {
      passed = record { forward = h; none = λ k a b. ⊎_elim (λ g. p.none k a g) (λ g. r.none k (omega (arith, g, l)) b) (below? k j) };
      inside = omega arith;
      stands = λ g. absurd (omega (arith, g));
    }

-- ---- sizes

module _ (s : List ℕ) (i : ℕ) where
  pub size_none : None s i → size_at s i ≡ 0
  unfolding size_at
  size_none e = rw e

  pub size_stands : Stands s i → size_at s i ≡ behind i (length_at s i) - i
  unfolding size_at
  size_stands e = rw e

  pub none_size : size_at s i ≡ 0 → None s i
  none_size z =
      none_by s i λ h.
      let f = formed_at s i h in let e = next_due s i f in let g = size_stands h in absurd (omega (arith, z, e, g))

  pub size_some : {n : ℕ} → n ≡ size_at s i → (n ≡ 0 → ⊥) → Stands s i
  size_some e h = ⊎_elim (λ g. g) (λ g. absurd (h (e ∙ size_none g))) (which (is_formed (record_at s i)))

  -- fewer than six bytes
  pub few_none : length s < i + 6 → None s i
  few_none l =
      none_by s i λ h. let f = formed_at s i h in let e = at_end s i f in let t = two_bytes s i f in omega (arith, l, e, t)

  -- by the length and the body
  pub at_length : {l : Length} → l ≡ length_of (take (i + 4 - i) (drop i s)) → l ≡ length_at s i
  unfolding length_at
  at_length e = let z : i + 4 - i ≡ 4 = omega arith in rw z at e

  pub size_formed : {n : ℕ} → counts n ≡ length_at s i → n ≤ length (drop (i + 4) s) → is_formed (body_of (take n (drop (i + 4) s))) ≡ true → Sized s i (Some (4 + n))
  size_formed {n} e l f =
      let h = ap is_formed (record_there s i e l) ∙ f in
      let g = size_stands h in
      let b : behind i (length_at s i) ≡ i + 4 + n = ap (behind i) (sym e) in
      (h, omega (arith, g, b))

  -- as the code has the body
  module _ {n : ℕ} (e : counts n ≡ length_at s i) where
    module _ (l : n ≤ length s - i - 4) {b : Bool} (f : b ≡ is_formed (body_of (take (i + 4 + n - (i + 4)) (drop (i + 4) s)))) where
      room : n ≤ length (drop (i + 4) s)
      room = omega (arith, l, length-drop (i + 4) s)

      body_is : b ≡ is_formed (body_of (take n (drop (i + 4) s)))
      body_is = let z : i + 4 + n - (i + 4) ≡ n = omega arith in rw z at f

      pub body_yes : b ≡ true → Sized s i (Some (4 + n))
      body_yes t = size_formed e room (sym body_is ∙ t)

      pub body_no : b ≡ false → None s i
      body_no t = ap is_formed (record_there s i e room) ∙ (sym body_is ∙ t)

    pub size_short : length s - i - 4 < n → None s i
    size_short l = ap is_formed (record_short s i e (omega (arith, l, length-drop (i + 4) s)))

  pub size_few : length s - i < 4 → None s i
  size_few l = few_none (omega (arith, l))

  pub size_broken : broken ≡ length_at s i → None s i
  size_broken e = ap is_formed (record_broken s i e)

  pub size_over : missing ≡ length_at s i → None s i
  size_over e = ap is_formed (record_over s i e)

  -- whether one stands
  pub sized_stands : (o : Option ℕ) → Sized s i o → is_some o ≡ true → Stands s i
  sized_stands (Some n) h e = h.0
  sized_stands code.None h e = absurd (yes_no e refl)

  pub sized_none : (o : Option ℕ) → Sized s i o → is_some o ≡ false → None s i
  sized_none (Some n) h e = absurd (yes_no refl e)
  sized_none code.None h e = h

  -- a pop by its bytes
  pub pop_size : i + 6 ≤ length s → get_or s i 0 ≡ 0 → get_or s (i + 1) 0 ≡ 0 → get_or s (i + 2) 0 ≡ 0 → get_or s (i + 3) 0 ≡ 2 → get_or s (i + 4) 0 ≡ 1 → get_or s (i + 5) 0 ≡ 6 → Sized s i (Some 6)
  unfolding length_at length_of body_of op_of pop_of be
  pop_size l b₀ b₁ b₂ b₃ b₄ b₅ =
      let d = length-drop (i + 4) s in
      size_formed pop_counts (omega (arith, d, l)) pop_body
    where
      pop_bytes : take 2 (drop (i + 4) s) ≡ 1 ∷ (6 ∷ [])
      pop_bytes =
          let e : suc (i + 4) ≡ i + 5 = omega arith in
          let d : drop (i + 4) s ≡ get_or s (i + 4) 0 ∷ (get_or s (i + 5) 0 ∷ drop (suc (i + 5)) s) =
          drop-cons s (i + 4) 0 (omega (arith, l)) ∙ ap (get_or s (i + 4) 0 ∷◌) (ap (λ n. drop n s) e ∙ drop-cons s (i + 5) 0 (omega (arith, l))) in
          rw (d, b₄, b₅) refl

      pop_body : is_formed (body_of (take 2 (drop (i + 4) s))) ≡ true
      pop_body = rw pop_bytes refl

      pop_counts : counts 2 ≡ length_at s i
      pop_counts =
          let t = length-take 4 (drop i s) in
          let d = length-drop i s in
          let z : i + 0 ≡ i = omega arith in
          let h₀ = head_byte s i 0 (omega arith) ∙ ap (λ k. get_or s k 0) z in
          let h₁ = head_byte s i 1 (omega arith) in
          let h₂ = head_byte s i 2 (omega arith) in
          let h₃ = head_byte s i 3 (omega arith) in
          length_counts (take 4 (drop i s)) (λ e. omega (arith, e, t, d, l)) (omega (arith, t, d, l))
          (sym (four_are (take 4 (drop i s)) ∙ omega (arith, h₀, h₁, h₂, h₃, b₀, b₁, b₂, b₃))) (omega arith)

-- ---- the places that have six bytes from them on

pub roomy_ends : (s : List ℕ) (end : ℕ) → RoomyEnd s end (min end (length s - 5))
roomy_ends s end = record { inside = omega arith; room = λ l. omega (arith, l); none = λ k a b. few_none s k (omega (arith, a, b)) }
