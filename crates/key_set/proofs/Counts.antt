-- The machine's own counts of a word's bits give the keys of a set, for any number of words: its trailing zeros the lowest key, its ones the
-- number of keys. Assumes nothing.
use mathlib.Core.Path.{◌≡◌, refl, sym, ap, ap₂, ◌∙◌}
use mathlib.Core.Logic.{◌≢◌}
use mathlib.Core.List.{List, [], ◌∷◌, ◌++◌}
use mathlib.Core.Option.{some}
use Prim.Native.Nat.{ℕ, zero, suc, ◌+◌, ◌-◌, ◌*◌, ◌/◌, ◌%◌, ◌^◌, ◌≤◌, ◌<◌}
use native.Mathlib.Nat.{mod-lt, zero-lt-suc, div-div-eq-div-mul, div-one, pow-suc}
use native.Mathlib.Omega.{arith}
use lib.Dec.{eqb}
use lib.Count.{count_trailing_zeros, under, ones, ones_step}
use lib.Pow.{shr_lt}
use lib.ListN.{length, get_or, length-append}
use Rattle.lists.specs.Ranges.{first, those_no}
use Rattle.lists.proofs.Ranges.{those_yes}
use Rattle.key_set.specs.Sets.{capacity, bit, has, keys_from, lowest_from, size_of}
use Rattle.key_set.proofs.Laws.{half_lt, keys_end, size_fits}

-- ---- the ones of a word

-- the place k of a bit, if it is 1, before those of the higher ones
abbrev placed : ℕ → ℕ → List ℕ → List ℕ
placed zero k l = l
placed (suc d) k l = k ∷ l

-- the places of the ones among the c lowest bits of x, ascending; k is the place of the lowest bit
unfoldable pub ones_from : ℕ → ℕ → ℕ → List ℕ
ones_from zero x k = []
ones_from (suc c) x k = placed (x % 2) k (ones_from c (x / 2) (k + 1))

pub no_ones : (c k : ℕ) → ones_from c 0 k ≡ []
unfolding ones_from
no_ones zero k = refl
no_ones (suc c) k = no_ones c (k + 1)

-- there are as many as the machine counts
pub count_ones : (c x k : ℕ) → x < 2 ^ c → length (ones_from c x k) ≡ ones x
unfolding ones_from ones
count_ones zero x k h = ap ones (let e : 0 ≡ x = omega arith in e)
count_ones (suc c) x k h =
    one_more (x % 2) (ones_from c (x / 2) (k + 1)) (mod-lt x (zero-lt-suc 1)) ∙ ap (λ (n : ℕ). x % 2 + n) (count_ones c (x / 2) (k + 1) (half_lt c h))
    ∙ sym (ones_step x)
  where
    one_more : (d : ℕ) (l : List ℕ) → d < 2 → length (placed d k l) ≡ d + length l
    one_more zero l b = omega arith
    one_more (suc zero) l b = omega arith
    one_more (suc (suc d)) l b = absurd (omega arith)

-- and the first of them stands behind the trailing zeros
pub first_one : (c n x k : ℕ) → c ≤ n → 0 < x → x < 2 ^ c → first (ones_from c x k) ≡ some (k + count_trailing_zeros n x)
unfolding ones_from count_trailing_zeros
first_one zero n x k l p h = absurd (omega arith)
first_one (suc c) zero x k l p h = absurd (omega arith)
first_one (suc c) (suc n) x k l p h = go (x % 2) refl (λ q. first_one c n (x / 2) (k + 1) (omega arith) q (half_lt c h))
  where
    t : ℕ
    t = count_trailing_zeros n (x / 2)

    go : (d : ℕ) → x % 2 ≡ d → (0 < x / 2 → first (ones_from c (x / 2) (k + 1)) ≡ some (k + 1 + t))
        → first (placed d k (ones_from c (x / 2) (k + 1))) ≡ some (k + under d t)
    go zero e rest = rest (omega arith) ∙ ap some (let s : k + 1 + t ≡ k + suc t = omega arith in s)
    go (suc d) e rest = ap some (let s : k ≡ k + 0 = omega arith in s)

first_front : (a b : List ℕ) {m : ℕ} → first a ≡ some m → first (a ++ b) ≡ some m
first_front [] b e = absurd (let z : ◌≡◌ {A = ℕ} 0 1 = cc in omega arith)
first_front (n ∷ a) b e = e

-- ---- the words of a set

module _ (ws : List ℕ) where
  -- bit b of word i is that of key k
  keys_step : (i b k : ℕ) → i * 64 + b ≡ k → b < 64 → i < length ws → keys_from ws k ≡ placed (get_or ws i 0 / 2 ^ b % 2) k (keys_from ws (k + 1))
  unfolding keys_from has bit
  keys_step i b k at h l = go (get_or ws i 0 / 2 ^ b % 2) refl (mod-lt (get_or ws i 0 / 2 ^ b) (zero-lt-suc 1))
    where
      here : (d : ℕ) → get_or ws i 0 / 2 ^ b % 2 ≡ d → has ws k ≡ eqb d 1
      here d e =
          let p : k / 64 ≡ i = omega arith in
          let q : k % 64 ≡ b = omega arith in
          ap₂ (λ (x y : ℕ). eqb (get_or ws x 0 / 2 ^ y % 2) 1) p q ∙ ap (λ (n : ℕ). eqb n 1) e

      go : (d : ℕ) → get_or ws i 0 / 2 ^ b % 2 ≡ d → d < 2 → keys_from ws k ≡ placed d k (keys_from ws (k + 1))
      go zero e m = those_no (has ws) (capacity ws) k (omega arith) (here zero e)
      go (suc zero) e m = those_yes (has ws) (capacity ws) k (omega arith) (here 1 e)
      go (suc (suc d)) e m = absurd (omega arith)

  -- the keys from k on are the ones of its word from its bit on, and then the keys of the words behind it
  keys_word : (i b c k n : ℕ) → i * 64 + b ≡ k → b + c ≡ 64 → k + c ≡ n → i < length ws → keys_from ws k ≡ ones_from c (get_or ws i 0 / 2 ^ b) k ++ keys_from ws n
  unfolding ones_from
  keys_word i b zero k n at e to l = ap (keys_from ws) (let s : k ≡ n = omega arith in s)
  keys_word i b (suc c) k n at e to l =
      keys_step i b k at (omega arith) l
      ∙ ap (placed (get_or ws i 0 / 2 ^ b % 2) k)
      (keys_word i (suc b) c (k + 1) n (omega arith) (omega arith) (omega arith) l ∙ ap (λ (x : ℕ). ones_from c x (k + 1) ++ keys_from ws n) half)
      ∙ behind (get_or ws i 0 / 2 ^ b % 2) (ones_from c (get_or ws i 0 / 2 ^ b / 2) (k + 1))
    where
      half : get_or ws i 0 / 2 ^ suc b ≡ get_or ws i 0 / 2 ^ b / 2
      half = ap (λ (m : ℕ). get_or ws i 0 / m) (pow-suc 2 b) ∙ sym (div-div-eq-div-mul (get_or ws i 0) (2 ^ b) 2)

      behind : (d : ℕ) (a : List ℕ) → placed d k (a ++ keys_from ws n) ≡ placed d k a ++ keys_from ws n
      behind zero a = refl
      behind (suc d) a = refl

  -- ---- the machine's counts

  -- the search goes up from k and has come to key j of word i; x is that word from its bit on
  module _ (k i j : ℕ) (same : keys_from ws k ≡ keys_from ws j) (low : i * 64 ≤ j) (high : j < (i + 1) * 64) (l : i < length ws) where
    abbrev x : ℕ
    x = get_or ws i 0 / 2 ^ (j % 64)

    abbrev left : ℕ
    left = 64 - j % 64

    from_word : keys_from ws k ≡ ones_from left x j ++ keys_from ws ((i + 1) * 64)
    from_word = same ∙ keys_word i (j % 64) left j ((i + 1) * 64) (omega arith) (omega arith) (omega arith) l

    -- its trailing zeros give the lowest key
    pub found_word : get_or ws i 0 < 2 ^ 64 → x ≢ 0 → some (j + count_trailing_zeros 64 x) ≡ lowest_from ws k
    unfolding lowest_from
    found_word f n =
        let up : left + j % 64 ≡ 64 = omega arith in
        sym (ap first from_word ∙ first_front (ones_from left x j) _ (first_one left 64 x j (omega arith) (omega (arith, n)) (shr_lt left (j % 64) (rw up f))))

    -- and where it is 0, the search goes on with the next word
    pub passed_word : x ≡ 0 → keys_from ws k ≡ keys_from ws ((i + 1) * 64)
    passed_word e = from_word ∙ rw (e, no_ones)

  -- n ones were counted in the words before i: with those of word i they are as many keys, which fit
  module _ (n i : ℕ) (same : n + length (keys_from ws (i * 64)) ≡ size_of ws) (l : i < length ws) (f : get_or ws i 0 < 2 ^ 64) where
    pub counted_word : n + ones (get_or ws i 0) + length (keys_from ws ((i + 1) * 64)) ≡ size_of ws
    counted_word =
        let w : ℕ = get_or ws i 0 in
        let e = ap length (keys_word i 0 64 (i * 64) ((i + 1) * 64) (omega arith) refl (omega arith) l) ∙ length-append (ones_from 64 (w / 2 ^ 0) (i * 64)) _ in
        omega (arith, same, e, count_ones 64 (w / 2 ^ 0) (i * 64) (rw (div-one w) f) ∙ ap ones (div-one w))

    pub counted_fit : n + ones (get_or ws i 0) ≤ capacity ws
    counted_fit = omega (arith, counted_word, size_fits ws)

  pub counted_all : (n i : ℕ) → n + length (keys_from ws (i * 64)) ≡ size_of ws → length ws ≤ i → n ≡ size_of ws
  counted_all n i same h = omega (arith, same, ap length (keys_end ws (i * 64) (omega arith)))
