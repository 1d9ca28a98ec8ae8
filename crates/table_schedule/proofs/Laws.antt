-- A law for each case of the questions, in the form that the code meets it. Assumes nothing.
use Prim.Native.Nat.{ℕ, ◌+◌, ◌-◌, ◌*◌, ◌%◌, ◌^◌, ◌≤◌, ◌<◌}
use mathlib.Core.Path.{◌≡◌, sym, ap, ◌∙◌}
use mathlib.Core.Bool.{Bool, true, false, cond}
use mathlib.Core.List.{List, map}
use native.Mathlib.Nat.{add-zero, zero-mul, suc-mul, add_assoc, sub-zero, mod-eq_of_lt}
use native.Mathlib.Omega.{arith}
use native.Mathlib.Numerals.{add-one}
use Rattle.lists.specs.Lists.{keep, every, from, foldl}
use Rattle.key_set.specs.Sets.{insert_key, no_keys, word_count}
use Rattle.lists.specs.Steps.{and_pass, and_stop}
use Rattle.lists.proofs.Steps.{fold_next}
use Rattle.table_rows.specs.Bytes.{Image, be}
use Rattle.table_rows.specs.Kinds.{kind_of, count, place}
use Rattle.table_rows.specs.Rows.{row_place, field, parent}
use Rattle.table_rows.specs.Lineage.{ancestors, lineage_step, ancestors_on, ancestors_end}
use Rattle.table_schedule.specs.Schedule.{is_current, is_active, reactions_of}

-- ---- activity

module _ (s : Image) (modes : List ℕ) (i : ℕ) where
  pub active_not : is_current s modes i ≡ false → false ≡ is_active s modes i
  unfolding is_active every
  active_not c = rw (lineage_step s i) (and_stop (every (is_current s modes) (ancestors s i)) c)

  pub active_on : {p : ℕ} {b : Bool} → is_current s modes i ≡ true → p ≡ parent s i → p < i → b ≡ is_active s modes p → b ≡ is_active s modes i
  unfolding is_active every
  active_on c e h q = rw (lineage_step s i) (and_pass c (q ∙ ap (every (is_current s modes)) (sym (ancestors_on s e h))))

  pub active_end : {p : ℕ} → is_current s modes i ≡ true → p ≡ parent s i → i ≤ p → true ≡ is_active s modes i
  unfolding is_active every
  active_end c e h = rw (lineage_step s i) (and_pass c (ap (every (is_current s modes)) (sym (ancestors_end s e h))))

-- ---- sets of reactions, row by row

-- a reader's two moves over a row of up to six bytes
pub two_moves :
    (j gap : ℕ) {p a b : ℕ} → p ≤ 2 ^ 28 + j * 6 → j < 2 ^ 16 → gap ≤ 4 → a ≡ (p + gap) % 2 ^ 64 → b ≡ (a + 2) % 2 ^ 64 →
    (a ≡ p + gap) × ((b ≡ p + (gap + 2)) × (b ≤ 2 ^ 28 + (j + 1) * 6))
two_moves j gap {p} {a} {b} h l g e f =
    let x : a ≡ p + gap = e ∙ mod-eq_of_lt (omega arith) in
    let y : b ≡ a + 2 = f ∙ mod-eq_of_lt (omega (arith, x)) in
    (x, (omega (arith, x, y), omega (arith, x, y)))

module _ (s : Image) (k : ℕ) where
  pub row_first : (at : ℕ) → at ≡ place s k → at ≡ row_place s k 0
  unfolding row_place
  row_first at e = simp (zero-mul, add-zero) e

  pub row_next : (at j w : ℕ) → at ≡ row_place s k j → (kind_of k).width ≡ w → at + w ≡ row_place s k (j + 1)
  unfolding row_place
  row_next at j w e f = rw (e, ← f, add-one, suc-mul, add_assoc)

  module _ (test : ℕ → Bool) (gap n : ℕ) where
    -- the reactions of the rows from j on
    abbrev pub left : ℕ → List ℕ
    left j = map (λ j. field 2 s k j gap) (keep (λ j. test (field 2 s k j 0)) (from j (n - j)))

    pub gather_first : {ws : List ℕ} → n ≡ count s k → ws ≡ no_keys word_count → foldl insert_key ws (left 0) ≡ reactions_of s k test gap
    unfolding reactions_of
    gather_first e f = rw (sub-zero, e, f)

    pub gather_next :
        (j : ℕ) (ws : List ℕ) {at x y : ℕ} {t : Bool} {next : List ℕ} → j < n → at ≡ row_place s k j → x ≡ be 2 s at → y ≡ be 2 s (at + gap) → t ≡ test x →
        next ≡ cond t (insert_key ws y) ws → foldl insert_key next (left (j + 1)) ≡ foldl insert_key ws (left j)
    unfolding field
    gather_next j ws {at} {x} {y} {t} {next} h e f g q r =
        let a : x ≡ field 2 s k j 0 = f ∙ ap (be 2 s) (e ∙ sym (add-zero (row_place s k j))) in
        let b : y ≡ field 2 s k j gap = g ∙ ap (λ p. be 2 s (p + gap)) e in
        let c : next ≡ cond (test (field 2 s k j 0)) (insert_key ws (field 2 s k j gap)) ws = rw (← a, ← b, ← q) r in
        rw c (fold_next insert_key (λ j. test (field 2 s k j 0)) (λ j. field 2 s k j gap) n j ws h)
