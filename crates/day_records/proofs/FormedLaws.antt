-- A well-formed record at a place of a gate day: where it ends, and its first bytes. Assumes nothing.
use mathlib.Core.Path.{◌≡◌, refl, sym, ap, ◌∙◌}
use mathlib.Core.Logic.{⊎_elim}
use mathlib.Core.Bool.{Bool, true, false}
use mathlib.Core.List.{List}
use Prim.Native.Nat.{ℕ, ◌+◌, ◌*◌, ◌≤◌, ◌<◌}
use native.Mathlib.Omega.{arith}
use lib.ListN.{length, get_or, take, drop, length-take, length-drop, get_or-eq_default}
use lib.Seq.{get_or-take, get_or-drop}
use borrow.Author.Tests.{le-leb, lt-leb, eq-eqb, lt-ltb, ne_eqb, le-ltb}
use Rattle.lists.specs.Tests.{yes_no, below?, same?}
use Rattle.table_rows.specs.Bytes.{be}
use Rattle.day_records.specs.Records.{most_bytes, body_of, is_formed, Length, counts, broken, missing, length_of, length_at, record_of, record_at, behind}
use Rattle.day_records.proofs.Laws.{one_is, formed_version, formed_op_some, formed_op_few}

-- ---- how many bytes its length counts, that they are there, and that they are well formed
pub record Formed (s : List ℕ) (i : ℕ) : Type 0 where
  pub n : ℕ
  pub counted : counts n ≡ length_at s i
  pub there : n ≤ length (drop (i + 4) s)
  pub body : is_formed (body_of (take n (drop (i + 4) s))) ≡ true

pub formed_at : (s : List ℕ) (i : ℕ) → is_formed (record_at s i) ≡ true → Formed s i
unfolding record_at
formed_at s i h = go (length_at s i) refl h
  where
    go : (w : Length) → w ≡ length_at s i → is_formed (record_of w (drop (i + 4) s)) ≡ true → Formed s i
    go (counts n) e g =
        ⊎_elim (λ l. absurd (yes_no g (rw (lt-leb n (length (drop (i + 4) s)) l))))
        (λ l. record { n = n; counted = e; there = l; body = rw (le-leb n (length (drop (i + 4) s)) l) at g })
        (below? (length (drop (i + 4) s)) n)
    go broken e g = absurd (yes_no g refl)
    go missing e g = absurd (yes_no g refl)

-- ---- a length of four bytes

-- a count is that of four bytes, and no more than the most
pub record Counted (b : List ℕ) (n : ℕ) : Type 0 where
  pub four : 4 ≤ length b
  pub is : n ≡ be 4 b 0
  pub few : n ≤ most_bytes

count_of : Length → ℕ
count_of (counts n) = n
count_of broken = 0
count_of missing = 0

is_count : Length → Bool
is_count (counts n) = true
is_count broken = false
is_count missing = false

module _ (b : List ℕ) (n : ℕ) (e : counts n ≡ length_of b) where
  counts_yes : is_count (length_of b) ≡ true
  unfolding is_count
  counts_yes = ap is_count (sym e)

  pub counted_of : Counted b n
  unfolding length_of is_count count_of
  counted_of =
      ⊎_elim (λ z. absurd (yes_no counts_yes (rw (eq-eqb (length b) 0 z))))
      (λ z.
      ⊎_elim (λ l. absurd (yes_no counts_yes (rw (ne_eqb (length b) 0 z, lt-ltb (length b) 4 l))))
      (λ l.
      ⊎_elim (λ m. absurd (yes_no counts_yes (rw (ne_eqb (length b) 0 z, le-ltb (length b) 4 l, lt-leb (be 4 b 0) most_bytes m))))
      (λ m.
      let is : n ≡ be 4 b 0 = ap count_of e ∙ rw (ne_eqb (length b) 0 z, le-ltb (length b) 4 l, le-leb (be 4 b 0) most_bytes m) in
      record { four = l; is = is; few = rw is m })
      (below? most_bytes (be 4 b 0))) (below? (length b) 4)) (same? (length b) 0)

-- ---- the bytes that a well-formed record has at its place

pub four_are : (b : List ℕ) → be 4 b 0 ≡ ((get_or b 0 0 * 256 + get_or b 1 0) * 256 + get_or b 2 0) * 256 + get_or b 3 0
unfolding be
four_are b = omega arith

pub head_byte : (s : List ℕ) (i k : ℕ) → k < 4 → get_or (take 4 (drop i s)) k 0 ≡ get_or s (i + k) 0
head_byte s i k h = get_or-take 4 (drop i s) k 0 h ∙ get_or-drop i s k 0

module _ (s : List ℕ) (i : ℕ) (f : Formed s i) where
  counted_there : Counted (take 4 (drop i s)) f.n
  unfolding length_at
  counted_there = counted_of (take 4 (drop i s)) f.n f.counted

  -- the first two bytes of its length are zeros
  pub at_first : get_or s i 0 ≡ 0
  at_first =
      let c = counted_there in
      let e = c.is ∙ four_are (take 4 (drop i s)) in
      let z : i ≡ i + 0 = omega arith in
      ap (λ k. get_or s k 0) z ∙ (sym (head_byte s i 0 (omega arith)) ∙ omega (arith, e, c.few))

  pub at_second : get_or s (i + 1) 0 ≡ 0
  at_second = let c = counted_there in let e = c.is ∙ four_are (take 4 (drop i s)) in sym (head_byte s i 1 (omega arith)) ∙ omega (arith, e, c.few)

  -- it ends inside the bytes
  pub at_end : i + 4 + f.n ≤ length s
  at_end =
      let c = counted_there.four in
      let t = length-take 4 (drop i s) in
      let d = length-drop i s in
      let r = length-drop (i + 4) s in
      let h = f.there in
      omega (arith, c, t, d, r, h)

  body_byte : (k : ℕ) → 0 < be 1 (take f.n (drop (i + 4) s)) k → (k < f.n) × (be 1 (take f.n (drop (i + 4) s)) k ≡ get_or s (i + 4 + k) 0)
  body_byte k h =
      let b = take f.n (drop (i + 4) s) in
      let t = length-take f.n (drop (i + 4) s) in
      let m = f.there in
      ⊎_elim (λ l. (l, one_is b k ∙ (get_or-take f.n (drop (i + 4) s) k 0 l ∙ get_or-drop (i + 4) s k 0)))
      (λ l. let z = one_is b k ∙ get_or-eq_default b 0 {n = k} (omega (arith, t, m)) in absurd (omega (arith, h, z)))
      (below? k f.n)

  -- then the version, and an op
  pub at_version : get_or s (i + 4) 0 ≡ 1
  at_version =
      let v = formed_version _ f.body in
      let z : i + 4 + 0 ≡ i + 4 = omega arith in
      let e = (body_byte 0 (rw v (omega arith))).1 in
      sym (rw z at e) ∙ v

  pub at_op : (0 < get_or s (i + 5) 0) × (get_or s (i + 5) 0 ≤ 6)
  at_op =
      let b = take f.n (drop (i + 4) s) in
      let l = formed_op_some b f.body in
      let h = formed_op_few b f.body in
      let e = (body_byte 1 l).1 in
      let z : i + 4 + 1 ≡ i + 5 = omega arith in
      let g = rw z at e in (omega (arith, g, l), omega (arith, g, h))

  pub two_bytes : 2 ≤ f.n
  two_bytes = let l = (body_byte 1 (formed_op_some _ f.body)).0 in omega (arith, l)

  -- where the next one is due
  pub next_due : behind i (length_at s i) ≡ i + 4 + f.n
  next_due = ap (behind i) (sym f.counted)
