-- The laws of sets of keys, for any number of words: membership, insert, union, the keys as a list, size, extensionality. Assumes nothing.
use mathlib.Core.Path.{◌≡◌, refl, sym, ap, ap₂, ◌∙◌, subst}
use mathlib.Core.Logic.{◌≢◌, ⊎_elim}
use mathlib.Core.Bool.{Bool, true, false, cond, ◌&&◌, ◌||◌}
use mathlib.Core.List.{List, [], ◌∷◌}
use mathlib.Core.Option.{Option, none, some}
use Prim.Native.Nat.{ℕ, zero, suc, ◌+◌, ◌-◌, ◌*◌, ◌/◌, ◌%◌, ◌^◌, ◌≤◌, ◌<◌, max}
use native.Mathlib.Nat.{mod-lt, zero-lt-suc, div-eq_of_lt, div_self, zero-div, zero-max, max-zero, mul-mod_left, div-div-eq-div-mul, pow-suc, pow-succ', div-one}
use native.Mathlib.Numerals.{add-one}
use native.Mathlib.Omega.{arith}
use lib.Dec.{eqb, ltb}
use lib.Bits.{bit_or, or_shr, or_mod, or_zero_r}
use lib.Pow.{pow_pos, pow-lt, pow-add, shl-shr, shr_lt}
use lib.ListN.{length, get_or, set, replicate, length-set, length-replicate, get_or-replicate, get_or-eq_default}
use lib.Seq.{get_or-set_same, get_or-set_other, set_out, ext_get_or}
use borrow.Author.Tests.{eq-eqb, ne_eqb, lt-ltb, le-ltb, le-leb}
use Rattle.lists.specs.Tests.{same?, gt_eqb, below?, and_yes, or_no, or_yes}
use Rattle.lists.specs.Every.{no_way}
use Rattle.lists.specs.Lists.{keep, any, foldl}
use Rattle.lists.specs.Ranges.{ascending, first_none, Lowest, those_end, those_none}
use Rattle.lists.proofs.Ranges.{those_ascend, those_first, those_lowest, those_empty, those_fit, those_any, those_same, keep_those, count_either, count_more}
use Rattle.lists.specs.Ranges.{both, either}
use Rattle.std.specs.Prelude.{Some, None, is_some, not}
use Rattle.std.specs.Prelude as code
use Rattle.key_set.specs.Views.{found_of}
use Rattle.key_set.specs.Sets.{capacity, bit, has, keys_from, keys_of, lowest_from, size_of, is_empty_of, no_keys, insert_key, union_of, only_keys}

-- ---- bits of a word

pub bit_lt : (x j : ℕ) → bit x j < 2
unfolding bit
bit_lt x j = mod-lt (x / 2 ^ j) (zero-lt-suc 1)

-- two bits
or_bits : (a b : ℕ) → a < 2 → b < 2 → bit_or a b ≡ max a b
or_bits zero b ha hb = sym (zero-max b)
or_bits (suc zero) zero ha hb = refl
or_bits (suc zero) (suc zero) ha hb = refl
or_bits (suc zero) (suc (suc b)) ha hb = absurd (omega arith)
or_bits (suc (suc a)) b ha hb = absurd (omega arith)

pub bit_or_lem : (x y j : ℕ) → bit (bit_or x y) j ≡ max (bit x j) (bit y j)
unfolding bit
bit_or_lem x y j =
    ap (λ (n : ℕ). n % 2) (or_shr x y j) ∙ or_mod (x / 2 ^ j) (y / 2 ^ j) 1 ∙ or_bits (x / 2 ^ j % 2) (y / 2 ^ j % 2) (bit_lt x j) (bit_lt y j)

pub bit_zero : (j : ℕ) → bit 0 j ≡ 0
unfolding bit
bit_zero j = ap (λ (n : ℕ). n % 2) (zero-div (2 ^ j))

pub bit_pow_same : (i : ℕ) → bit (2 ^ i) i ≡ 1
unfolding bit
bit_pow_same i = ap (λ (n : ℕ). n % 2) (div_self (pow_pos i))

pub bit_pow_other : (i j : ℕ) → j ≢ i → bit (2 ^ i) j ≡ 0
unfolding bit
bit_pow_other i j n = ⊎_elim below (λ h. ap (λ (x : ℕ). x % 2) (div-eq_of_lt (pow-lt (omega (arith, n))))) (below? j i)
  where
    -- 2 ^ i is (2 ^ d * 2) * 2 ^ j
    below : j < i → 2 ^ i / 2 ^ j % 2 ≡ 0
    below h =
        let d : ℕ = i - j - 1 in
        let e : i ≡ suc d + j = omega arith in
        ap (λ (x : ℕ). 2 ^ x / 2 ^ j % 2) e ∙ ap (λ (x : ℕ). x / 2 ^ j % 2) (pow-add 2 (suc d) j)
        ∙ ap (λ (x : ℕ). x % 2) (shl-shr (2 ^ suc d) j) ∙ ap (λ (x : ℕ). x % 2) (pow-suc 2 d) ∙ mul-mod_left (2 ^ d) 2

pub bit_low : (x : ℕ) → bit x 0 ≡ x % 2
unfolding bit
bit_low x = ap (λ (n : ℕ). n % 2) (div-one x)

pub bit_half : (x j : ℕ) → bit x (suc j) ≡ bit (x / 2) j
unfolding bit
bit_half x j = ap (λ (n : ℕ). n % 2) (ap (λ (n : ℕ). x / n) (pow-succ' 2 j) ∙ sym (div-div-eq-div-mul x 2 (2 ^ j)))

pub half_lt : {x : ℕ} (n : ℕ) → x < 2 ^ suc n → x / 2 < 2 ^ n
half_lt {x} n h = shr_lt n 1 (subst (λ (m : ℕ). x < 2 ^ m) (sym (add-one n)) h)

-- ---- sets

pub has_past : (ws : List ℕ) (k : ℕ) → length ws ≤ k / 64 → has ws k ≡ false
unfolding has
has_past ws k h = ap (λ (x : ℕ). eqb (bit x (k % 64)) 1) (get_or-eq_default ws 0 h) ∙ ap (λ (x : ℕ). eqb x 1) (bit_zero (k % 64))

pub insert_past : (ws : List ℕ) (k : ℕ) → length ws ≤ k / 64 → insert_key ws k ≡ ws
unfolding insert_key
insert_past ws k h = set_out ws (k / 64) _ h

pub length_insert : (ws : List ℕ) (k : ℕ) → length (insert_key ws k) ≡ length ws
unfolding insert_key
length_insert ws k = length-set ws (k / 64) _

-- word by word
pub get_or_insert : (ws : List ℕ) (k i : ℕ) → i < length ws → get_or (insert_key ws k) i 0 ≡ bit_or (get_or ws i 0) (cond (eqb (k / 64) i) (2 ^ (k % 64)) 0)
unfolding insert_key
get_or_insert ws k i h =
    ⊎_elim (λ (s : k / 64 ≡ i). rw (eq-eqb (k / 64) i s, ← s) (get_or-set_same ws (k / 64) _ 0 (omega (arith, s))))
    (λ (s : k / 64 ≢ i). rw (ne_eqb (k / 64) i s) (get_or-set_other ws (k / 64) i _ 0 (λ e. s (sym e)) ∙ sym (or_zero_r (get_or ws i 0))))
    (same? (k / 64) i)

pub has_empty : (n k : ℕ) → has (replicate n 0) k ≡ false
unfolding has
has_empty n k =
    ⊎_elim
    (λ (h : k / 64 < n). ap (λ (x : ℕ). eqb (bit x (k % 64)) 1) (get_or-replicate n (k / 64) 0 0 h) ∙ ap (λ (x : ℕ). eqb x 1) (bit_zero (k % 64)))
    (λ (h : n ≤ k / 64). has_past (replicate n 0) k (omega (arith, length-replicate {A = ℕ} n 0)))
    (below? (k / 64) n)

-- a key of the set is within its words
pub has_within : (ws : List ℕ) (k : ℕ) → has ws k ≡ true → k / 64 < length ws
has_within ws k t =
    ⊎_elim (λ (h : k / 64 < length ws). h)
    (λ (h : length ws ≤ k / 64). let f : has ws k ≡ false = has_past ws k h in let z : ◌≡◌ {A = ℕ} 0 1 = cc in absurd (omega arith))
    (below? (k / 64) (length ws))

max_one : (b : ℕ) → b < 2 → max b 1 ≡ 1
max_one zero h = refl
max_one (suc zero) h = refl
max_one (suc (suc b)) h = absurd (omega arith)

pub has_insert_same : (ws : List ℕ) (k : ℕ) → k / 64 < length ws → has (insert_key ws k) k ≡ true
unfolding has insert_key
has_insert_same ws k h =
    let w : ℕ = get_or ws (k / 64) 0 in
    let b : ℕ = k % 64 in
    ap (λ (x : ℕ). eqb (bit x b) 1) (get_or-set_same ws (k / 64) _ 0 h)
    ∙ ap (λ (x : ℕ). eqb x 1) (bit_or_lem w (2 ^ b) b ∙ ap (λ (x : ℕ). max (bit w b) x) (bit_pow_same b) ∙ max_one (bit w b) (bit_lt w b))

pub has_insert_other : (ws : List ℕ) (k j : ℕ) → j ≢ k → has (insert_key ws k) j ≡ has ws j
unfolding has insert_key
has_insert_other ws k j n = ⊎_elim here (λ d. ap (λ (x : ℕ). eqb (bit x (j % 64)) 1) (get_or-set_other ws (k / 64) (j / 64) _ 0 d)) (same? (j / 64) (k / 64))
  where
    b : ℕ
    b = j % 64

    w : ℕ
    w = get_or ws (k / 64) 0

    v : ℕ
    v = bit_or w (2 ^ (k % 64))

    here : j / 64 ≡ k / 64 → eqb (bit (get_or (set ws (k / 64) v) (j / 64) 0) b) 1 ≡ eqb (bit (get_or ws (j / 64) 0) b) 1
    here e =
        ⊎_elim
        (λ (h : k / 64 < length ws). ap (λ (x : ℕ). eqb (bit (get_or (set ws (k / 64) v) x 0) b) 1) e ∙ ap (λ (x : ℕ). eqb (bit x b) 1) (get_or-set_same ws (k / 64) v 0 h)
        ∙ ap (λ (x : ℕ). eqb x 1) (bit_or_lem w (2 ^ (k % 64)) b ∙ ap (λ (x : ℕ). max (bit w b) x) (bit_pow_other (k % 64) b (λ q. n (omega arith))) ∙ max-zero (bit w b))
        ∙ ap (λ (x : ℕ). eqb (bit (get_or ws x 0) b) 1) (sym e))
        (λ (h : length ws ≤ k / 64). ap (λ (l : List ℕ). eqb (bit (get_or l (j / 64) 0) b) 1) (set_out ws (k / 64) v h))
        (below? (k / 64) (length ws))

pub length_union : (us vs : List ℕ) → length (union_of us vs) ≡ length us
unfolding union_of
length_union [] vs = refl
length_union (u ∷ us) [] = refl
length_union (u ∷ us) (v ∷ vs) = ap suc (length_union us vs)

pub get_or_union : (us vs : List ℕ) → length us ≡ length vs → (i : ℕ) → get_or (union_of us vs) i 0 ≡ bit_or (get_or us i 0) (get_or vs i 0)
unfolding union_of
get_or_union [] [] e i = refl
get_or_union [] (v ∷ vs) e i = absurd (omega arith)
get_or_union (u ∷ us) [] e i = absurd (omega arith)
get_or_union (u ∷ us) (v ∷ vs) e zero = refl
get_or_union (u ∷ us) (v ∷ vs) e (suc i) = get_or_union us vs (omega arith) i

max_test : (a b : ℕ) → a < 2 → b < 2 → eqb (max a b) 1 ≡ (eqb a 1 || eqb b 1)
max_test zero b ha hb = ap (λ (x : ℕ). eqb x 1) (zero-max b)
max_test (suc zero) zero ha hb = refl
max_test (suc zero) (suc zero) ha hb = refl
max_test (suc zero) (suc (suc b)) ha hb = absurd (omega arith)
max_test (suc (suc a)) b ha hb = absurd (omega arith)

pub has_union : (us vs : List ℕ) → length us ≡ length vs → (k : ℕ) → has (union_of us vs) k ≡ (has us k || has vs k)
unfolding has
has_union us vs e k =
    let i : ℕ = k / 64 in
    let b : ℕ = k % 64 in
    ap (λ (x : ℕ). eqb (bit x b) 1) (get_or_union us vs e i) ∙ ap (λ (x : ℕ). eqb x 1) (bit_or_lem (get_or us i 0) (get_or vs i 0) b)
    ∙ max_test (bit (get_or us i 0) b) (bit (get_or vs i 0) b) (bit_lt (get_or us i 0) b) (bit_lt (get_or vs i 0) b)

-- ---- the members say which set it is: sets of as many words, each of 64 bits, with the same members are the same words

pub word_ext : (n x y : ℕ) → x < 2 ^ n → y < 2 ^ n → ((j : ℕ) → j < n → bit x j ≡ bit y j) → x ≡ y
word_ext zero x y hx hy h = omega arith
word_ext (suc n) x y hx hy h =
    let low : x % 2 ≡ y % 2 = sym (bit_low x) ∙ h 0 (omega arith) ∙ bit_low y in
    let rest : x / 2 ≡ y / 2 = word_ext n (x / 2) (y / 2) (half_lt n hx) (half_lt n hy) (λ j l. sym (bit_half x j) ∙ h (suc j) (omega arith) ∙ bit_half y j) in
    omega arith

eqb_bits : (a b : ℕ) → a < 2 → b < 2 → eqb a 1 ≡ eqb b 1 → a ≡ b
eqb_bits zero zero ha hb e = refl
eqb_bits zero (suc zero) ha hb e = absurd (let z : ◌≡◌ {A = ℕ} 0 1 = cc in omega arith)
eqb_bits zero (suc (suc b)) ha hb e = absurd (omega arith)
eqb_bits (suc zero) zero ha hb e = absurd (let z : ◌≡◌ {A = ℕ} 0 1 = cc in omega arith)
eqb_bits (suc zero) (suc zero) ha hb e = refl
eqb_bits (suc zero) (suc (suc b)) ha hb e = absurd (omega arith)
eqb_bits (suc (suc a)) b ha hb e = absurd (omega arith)

pub set_ext : (us vs : List ℕ) → length us ≡ length vs → ((i : ℕ) → get_or us i 0 < 2 ^ 64) → ((i : ℕ) → get_or vs i 0 < 2 ^ 64)
    → ((k : ℕ) → has us k ≡ has vs k) → us ≡ vs
unfolding has
set_ext us vs e hu hv h =
    ext_get_or 0 us vs e (λ i l. word_ext 64 (get_or us i 0) (get_or vs i 0) (hu i) (hv i) (λ j m. eqb_bits _ _ (bit_lt _ j) (bit_lt _ j) (at i j m)))
  where
    at : (i j : ℕ) → j < 64 → eqb (bit (get_or us i 0) j) 1 ≡ eqb (bit (get_or vs i 0) j) 1
    at i j m =
        let k : ℕ = i * 64 + j in
        let p : k / 64 ≡ i = omega arith in
        let q : k % 64 ≡ j = omega arith in
        ap₂ (λ (x y : ℕ). eqb (bit (get_or us x 0) y) 1) (sym p) (sym q) ∙ h k ∙ ap₂ (λ (x y : ℕ). eqb (bit (get_or vs x 0) y) 1) p q

-- ---- insert and a run of inserts, as one equation each

pub has_insert : (ws : List ℕ) (k j : ℕ) → has (insert_key ws k) j ≡ (has ws j || (eqb j k && ltb j (capacity ws)))
has_insert ws k j = ⊎_elim here (λ (d : j ≢ k). has_insert_other ws k j d ∙ rw (ne_eqb j k d) (sym (or_no (has ws j)))) (same? j k)
  where
    here : j ≡ k → has (insert_key ws k) j ≡ (has ws j || (eqb j k && ltb j (capacity ws)))
    here e =
        rw (e, eq-eqb k k refl)
        (⊎_elim (λ (h : k < capacity ws). has_insert_same ws k (omega arith) ∙ rw (lt-ltb k (capacity ws) h) (sym (or_yes (has ws k))))
        (λ (h : capacity ws ≤ k). ap (λ (l : List ℕ). has l k) (insert_past ws k (omega arith)) ∙ rw (le-ltb k (capacity ws) h) (sym (or_no (has ws k))))
        (below? k (capacity ws)))

pub length_inserts : (l ws : List ℕ) → length (foldl insert_key ws l) ≡ length ws
unfolding foldl
length_inserts [] ws = refl
length_inserts (k ∷ l) ws = length_inserts l (insert_key ws k) ∙ length_insert ws k

pub has_inserts : (l ws : List ℕ) (j : ℕ) → has (foldl insert_key ws l) j ≡ (has ws j || (any (eqb j) l && ltb j (capacity ws)))
unfolding foldl any
has_inserts [] ws j = sym (or_no (has ws j))
has_inserts (k ∷ l) ws j =
    has_inserts l (insert_key ws k) j ∙ rw (length_insert ws k, has_insert ws k j) (joined (has ws j) (eqb j k) (any (eqb j) l) (ltb j (capacity ws)))
  where
    joined : (h e a c : Bool) → ((h || (e && c)) || (a && c)) ≡ (h || ((e || a) && c))
    joined true e a c = refl
    joined false true a true = refl
    joined false true true false = refl
    joined false true false false = refl
    joined false false a c = refl

-- ---- the keys of a set, ascending

module _ (ws : List ℕ) where
  pub has_far : (k : ℕ) → capacity ws ≤ k → has ws k ≡ false
  has_far k h = has_past ws k (omega arith)

  pub keys_end : (k : ℕ) → capacity ws ≤ k → keys_from ws k ≡ []
  unfolding keys_from
  keys_end k h = those_end (has ws) (capacity ws) k h

  -- a key is in the list exactly if it is in the set
  pub keys_has : (k : ℕ) → any (eqb k) (keys_of ws) ≡ has ws k
  unfolding keys_from
  keys_has k =
      those_any (has ws) (capacity ws) k 0 ∙
      rw (le-leb 0 k (omega arith))
      (⊎_elim (λ (h : k < capacity ws). rw (lt-ltb k (capacity ws) h))
      (λ (h : capacity ws ≤ k). rw (le-ltb k (capacity ws) h) (sym (has_far k h)))
      (below? k (capacity ws)))

  -- each is above the one before it
  pub keys_ascend : ascending 0 (keys_of ws) ≡ true
  unfolding keys_from
  keys_ascend = those_ascend (has ws) (capacity ws) 0

-- so the list of its keys says which set it is
pub keys_ext : (us vs : List ℕ) → length us ≡ length vs → ((i : ℕ) → get_or us i 0 < 2 ^ 64) → ((i : ℕ) → get_or vs i 0 < 2 ^ 64) → keys_of us ≡ keys_of vs → us ≡ vs
keys_ext us vs e hu hv k = set_ext us vs e hu hv (λ j. sym (keys_has us j) ∙ ap (any (eqb j)) k ∙ keys_has vs j)

-- what an answer of `lowest_from` says
module _ {f : code.Option ℕ} {o : Option ℕ} where
  pub told_key : {j : ℕ} → f ≡ Some j → found_of f ≡ o → some j ≡ o
  told_key e h = sym (ap found_of e) ∙ h

  pub told_nothing : f ≡ None → found_of f ≡ o → none ≡ o
  told_nothing e h = sym (ap found_of e) ∙ h

-- what the lowest key at or above k says of the keys from k on
pub record LowestKey (ws : List ℕ) (k m : ℕ) : Type 0 where
  pub is : Lowest (has ws) (capacity ws) k m
  pub on : keys_from ws k ≡ m ∷ keys_from ws (m + 1)

module _ (ws : List ℕ) (k : ℕ) where
  pub lowest_key : {m : ℕ} → some m ≡ lowest_from ws k → LowestKey ws k m
  unfolding lowest_from keys_from
  lowest_key {m} e =
      let l = those_first (has ws) (capacity ws) m k (sym e) in
      record { is = l; on = those_lowest (has ws) (capacity ws) m k l }

  -- where it lies, in a set of n words
  pub lowest_range : (n : ℕ) {m : ℕ} → length ws ≡ n → some m ≡ lowest_from ws k → (k ≤ m) × (m < n * 64)
  lowest_range n l e = let r = (lowest_key e).is in (r.from, omega (arith, r.below))

  pub lowest_none : none ≡ lowest_from ws k → keys_from ws k ≡ []
  unfolding lowest_from
  lowest_none e = first_none (keys_from ws k) (sym e)

  pub none_from : none ≡ lowest_from ws k → (j : ℕ) → k ≤ j → has ws j ≡ false
  unfolding keys_from
  none_from e j h =
      ⊎_elim (λ (b : j < capacity ws). those_empty (has ws) (capacity ws) j b k (lowest_none e) h) (has_far ws j) (below? j (capacity ws))

  -- the search goes up from k and has come to i
  module _ (i : ℕ) (same : keys_from ws k ≡ keys_from ws i) where
    pub found_none : capacity ws ≤ i → none ≡ lowest_from ws k
    unfolding lowest_from keys_from
    found_none h = rw (same, those_end (has ws) (capacity ws) i h)

-- going over a set by `lowest_from`: the key found, then on from the one after it, n times at most
abbrev pub after : (ℕ → List ℕ) → Option ℕ → List ℕ
after f none = []
after f (some m) = m ∷ f (m + 1)

unfoldable pub go_over : List ℕ → ℕ → ℕ → List ℕ
go_over ws zero k = []
go_over ws (suc n) k = after (go_over ws n) (lowest_from ws k)

-- it meets each key of the set once, ascending
pub over_keys : (ws : List ℕ) (n k : ℕ) → capacity ws ≤ k + n → go_over ws n k ≡ keys_from ws k
unfolding go_over
over_keys ws zero k h = sym (keys_end ws k (omega arith))
over_keys ws (suc n) k h = go (lowest_from ws k) refl (over_keys ws n)
  where
    go : (o : Option ℕ) → o ≡ lowest_from ws k → ((j : ℕ) → capacity ws ≤ j + n → go_over ws n j ≡ keys_from ws j) → after (go_over ws n) o ≡ keys_from ws k
    go none e ih = sym (lowest_none ws k e)
    go (some m) e ih =
        let l = lowest_key ws k e in
        rw (ih (m + 1) (omega (arith, l.is.from))) (sym l.on)

-- a fold over the keys that are left, l, as a loop over `keys` takes it: none is left, or one is given and m are left
module _ {B : Type 0} (f : B → ℕ → B) {b a : B} {l : List ℕ} (same : foldl f b l ≡ a) where
  pub fold_end : l ≡ [] → b ≡ a
  unfolding foldl
  fold_end e = rw (← same, e)

  pub fold_key : {j : ℕ} {m : List ℕ} {c : B} → l ≡ j ∷ m → c ≡ f b j → foldl f c m ≡ a
  unfolding foldl
  fold_key e g = rw (g, ← same, e)

-- ---- the keys that pass a test

module _ (p : ℕ → Bool) (ws : List ℕ) where
  pub length_only : length (only_keys p ws) ≡ length ws
  unfolding only_keys
  length_only = length_inserts (keep p (keys_of ws)) (no_keys (length ws)) ∙ length-replicate (length ws) 0

  pub has_only : (k : ℕ) → has (only_keys p ws) k ≡ (has ws k && p k)
  unfolding only_keys keys_from
  has_only k =
      has_inserts (keep p (keys_of ws)) (no_keys (length ws)) k ∙
      rw (has_empty (length ws) k, keep_those (has ws) p (capacity ws) 0, those_any (both (has ws) p) (capacity ws) k 0, le-leb 0 k (omega arith), length-replicate)
      (⊎_elim (λ (h : k < capacity ws). simp (lt-ltb k (capacity ws) h) (and_yes (has ws k && p k)))
      (λ (h : capacity ws ≤ k). simp (le-ltb k (capacity ws) h, has_far ws k h))
      (below? k (capacity ws)))

  -- they are those of the keys that pass, ascending
  pub keys_only : keys_of (only_keys p ws) ≡ keep p (keys_of ws)
  unfolding keys_from
  keys_only =
      rw length_only (those_same (has (only_keys p ws)) (both (has ws) p) (capacity ws) (λ j h. has_only j) 0) ∙
      sym (keep_those (has ws) p (capacity ws) 0)

-- ---- size

pub size_empty : (n : ℕ) → size_of (no_keys n) ≡ 0
unfolding size_of keys_from
size_empty n = rw (those_none (has (no_keys n)) (capacity (no_keys n)) 0 (λ j a b. has_empty n j))

pub size_fits : (ws : List ℕ) → size_of ws ≤ capacity ws
unfolding size_of keys_from
size_fits ws = omega (arith, those_fit (has ws) (capacity ws) 0)

-- the keys of both, and those of either, are as many as those of the one and of the other
pub size_union : (us vs : List ℕ) → length us ≡ length vs → size_of (union_of us vs) + length (keep (has vs) (keys_of us)) ≡ size_of us + size_of vs
unfolding size_of keys_from
size_union us vs e =
    rw (length_union us vs, those_same (has (union_of us vs)) (either (has us) (has vs)) (capacity us) (λ j h. has_union us vs e j) 0, keep_those (has us) (has vs) (capacity us) 0, ← e)
    (count_either (has us) (has vs) (capacity us) 0)

module _ (ws : List ℕ) (k : ℕ) where
  -- one more for a key that was not there
  pub size_new : k < capacity ws → has ws k ≡ false → size_of (insert_key ws k) ≡ size_of ws + 1
  unfolding size_of keys_from
  size_new h f =
      rw (length_insert ws k, those_same (has (insert_key ws k)) (either (has ws) (λ j. eqb j k)) (capacity ws) with_key 0)
      (count_more (has ws) (capacity ws) k h f)
    where
      with_key : (j : ℕ) → j < capacity ws → has (insert_key ws k) j ≡ (has ws j || eqb j k)
      with_key j b = has_insert ws k j ∙ rw (lt-ltb j (capacity ws) b) (ap (λ (t : Bool). has ws j || t) (and_yes (eqb j k)))

  -- and none for one that was
  pub size_old : has ws k ≡ true → size_of (insert_key ws k) ≡ size_of ws
  unfolding size_of keys_from
  size_old t = rw (length_insert ws k, those_same (has (insert_key ws k)) (has ws) (capacity ws) as_before 0)
    where
      as_before : (j : ℕ) → j < capacity ws → has (insert_key ws k) j ≡ has ws j
      as_before j b =
          ⊎_elim (λ (s : j ≡ k). rw s (has_insert_same ws k (has_within ws k t) ∙ sym t)) (λ (s : j ≢ k). has_insert_other ws k j s) (same? j k)

-- ---- what the code's loops keep

-- `ws` is `us` with its first i words those of `ts`: what a loop that puts bits into each word keeps
pub record Laid (us ts ws : List ℕ) (i : ℕ) : Type 0 where
  pub long : length ws ≡ length us
  pub done : (j : ℕ) → j < i → get_or ws j 0 ≡ get_or ts j 0
  pub left : (j : ℕ) → i ≤ j → get_or ws j 0 ≡ get_or us j 0

module _ (us ts : List ℕ) where
  pub laid_none : Laid us ts us 0
  laid_none = record { long = refl; done = λ j l. absurd (omega arith); left = λ j l. refl }

  pub laid_more : (ws : List ℕ) (i v : ℕ) → Laid us ts ws i → i < length us → get_or ts i 0 ≡ bit_or (get_or us i 0) v → Laid us ts (set ws i (bit_or (get_or ws i 0) v)) (i + 1)
  laid_more ws i v m h e = record {
    long = length-set ws i _ ∙ m.long;
    done = below;
    left = λ j l. get_or-set_other ws i j _ 0 (λ s. omega arith) ∙ m.left j (omega arith);
  }
    where
      below : (j : ℕ) → j < i + 1 → get_or (set ws i (bit_or (get_or ws i 0) v)) j 0 ≡ get_or ts j 0
      below j l =
          ⊎_elim (λ (s : j ≡ i). rw (s, get_or-set_same ws i (bit_or (get_or ws i 0) v) 0 (omega (arith, m.long)), m.left i (omega arith)) (sym e))
          (λ (s : j ≢ i). get_or-set_other ws i j _ 0 s ∙ m.done j (omega (arith, s)))
          (same? j i)

  pub laid_all : (ws : List ℕ) (i : ℕ) → length us ≡ length ts → length us ≤ i → Laid us ts ws i → ws ≡ ts
  laid_all ws i e h m = ext_get_or 0 ws ts (m.long ∙ e) (λ j l. m.done j (omega (arith, m.long)))

module _ (ws : List ℕ) where
  pub empty_no : {j : ℕ} → some j ≡ lowest_from ws 0 → false ≡ is_empty_of ws
  unfolding is_empty_of size_of
  empty_no e = sym (gt_eqb (length (keys_of ws)) 0 (omega (arith, ap length (lowest_key ws 0 e).on)))

  pub empty_yes : none ≡ lowest_from ws 0 → true ≡ is_empty_of ws
  unfolding is_empty_of size_of
  empty_yes e = rw (lowest_none ws 0 e)

  -- as `is_none` and `is_some` answer of the lowest key
  pub empty_told : (f : code.Option ℕ) (r : Bool) → is_some f ≡ not r → found_of f ≡ lowest_from ws 0 → r ≡ is_empty_of ws
  empty_told (Some j) false s e = empty_no e
  empty_told (Some j) true s e = no_way (sym s)
  empty_told None true s e = empty_yes e
  empty_told None false s e = no_way s

  pub empty_has : is_empty_of ws ≡ true → (k : ℕ) → has ws k ≡ false
  empty_has e k = go (lowest_from ws 0) refl
    where
      go : (o : Option ℕ) → o ≡ lowest_from ws 0 → has ws k ≡ false
      go none q = none_from ws 0 q k (omega arith)
      go (some j) q = no_way (empty_no q ∙ e)
