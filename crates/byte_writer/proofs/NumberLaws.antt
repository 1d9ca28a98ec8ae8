-- Laws of a number's bytes. Assumes nothing.
use mathlib.Core.Path.{◌≡◌, refl, ap, sym, ◌∙◌}
use mathlib.Core.List.{List, [], ◌∷◌, ◌++◌, append_assoc}
use Prim.Native.Nat.{ℕ, zero, suc, ◌+◌, ◌*◌, ◌-◌, ◌/◌, ◌%◌, ◌^◌, ◌≤◌, ◌<◌}
use native.Mathlib.Nat.{pow-suc}
use native.Mathlib.Omega.{arith}
use lib.ListN.{length, take, drop, get_or, length-append, length-drop, get_or-append}
use lib.Seq.{get_or-append-add, get_or_at, get_or-drop, take-suc}
use Rattle.table_rows.specs.Bytes.{be, be_bytes}

module _ (w n : ℕ) where
  pub number_none : w ≡ 0 → [] ≡ be_bytes w n
  unfolding be_bytes
  number_none e = sym (ap (λ k. be_bytes k n) e)

  pub number_more : (w ≡ 0 → ⊥) → be_bytes (w - 1) (n / 256) ++ (n % 256 ∷ []) ≡ be_bytes w n
  unfolding be_bytes
  number_more h = let e : suc (w - 1) ≡ w = omega (arith, h) in ap (λ k. be_bytes k n) e

pub number_length : (w n : ℕ) → length (be_bytes w n) ≡ w
unfolding be_bytes
number_length zero n = refl
number_length (suc w) n = rw (length-append, number_length w (n / 256)) (omega arith)

-- ---- read back

module _ (a b : List ℕ) where
  -- behind the first bytes, and among them
  pub read_behind : (w p : ℕ) → be w (a ++ b) (length a + p) ≡ be w b p
  unfolding be
  read_behind zero p = refl
  read_behind (suc w) p =
      let e : length a + p + w ≡ length a + (p + w) = omega arith in
      ap (λ n. n * 256 + get_or (a ++ b) (length a + p + w) 0) (read_behind w p) ∙
      ap (λ x. be w b p * 256 + x) (ap (λ i. get_or (a ++ b) i 0) e ∙ get_or-append-add a b (p + w) 0)

  pub read_among : (w p : ℕ) → p + w ≤ length a → be w (a ++ b) p ≡ be w a p
  unfolding be
  read_among zero p h = refl
  read_among (suc w) p h =
      ap (λ n. n * 256 + get_or (a ++ b) (p + w) 0) (read_among w p (omega arith)) ∙ ap (λ x. be w a p * 256 + x) (get_or-append a b 0 (p + w) (omega arith))

-- a number that its bytes can hold is read back
pub number_read : (w n : ℕ) (l : List ℕ) → n < 256 ^ w → be w (be_bytes w n ++ l) 0 ≡ n
unfolding be be_bytes
number_read zero n l h = omega (arith, h)
number_read (suc w) n l h =
    let few : n / 256 < 256 ^ w = omega (arith, pow-suc 256 w, h) in
    let e = append_assoc (be_bytes w (n / 256)) (n % 256 ∷ []) l in
    let first : be w (be_bytes w (n / 256) ++ (n % 256 ∷ l)) 0 ≡ n / 256 = number_read w (n / 256) (n % 256 ∷ l) few in
    let z : 0 + w ≡ w = omega arith in
    let last : get_or (be_bytes w (n / 256) ++ (n % 256 ∷ l)) (0 + w) 0 ≡ n % 256 =
    rw z (get_or_at (be_bytes w (n / 256)) (n % 256) l 0 w (number_length w (n / 256))) in
    ap (λ x. be w x 0 * 256 + get_or x (0 + w) 0) e ∙
    (ap (λ x. x * 256 + get_or (be_bytes w (n / 256) ++ (n % 256 ∷ l)) (0 + w) 0) first ∙ (ap (λ x. n / 256 * 256 + x) last ∙ omega arith))

-- and what is read, as bytes, is what stood there
pub read_number : (s : List ℕ) (w at : ℕ) → ((i : ℕ) → get_or s i 0 < 256) → at + w ≤ length s → be_bytes w (be w s at) ≡ take w (drop at s)
unfolding be be_bytes
read_number s zero at b h = refl
read_number s (suc w) at b h =
    let high : (be w s at * 256 + get_or s (at + w) 0) / 256 ≡ be w s at = let l = b (at + w) in omega (arith, l) in
    let low : (be w s at * 256 + get_or s (at + w) 0) % 256 ≡ get_or s (at + w) 0 = let l = b (at + w) in omega (arith, l) in
    let room : w < length (drop at s) = let l = length-drop at s in omega (arith, l, h) in
    ap (λ x. be_bytes w x ++ ((be w s at * 256 + get_or s (at + w) 0) % 256 ∷ [])) high ∙
    (ap (λ x. be_bytes w (be w s at) ++ (x ∷ [])) low ∙
    (ap (λ x. x ++ (get_or s (at + w) 0 ∷ [])) (read_number s w at b (omega arith)) ∙
    (ap (λ x. take w (drop at s) ++ (x ∷ [])) (sym (get_or-drop at s w 0)) ∙ sym (take-suc (drop at s) w 0 room))))
