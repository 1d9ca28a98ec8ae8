-- A list at the front of an array of n places, blanks behind it: what an array holds whose unused places are blank. Assumes nothing.
use Rattle.std.specs.Prelude.{◌≡◌, length, take, get_or, set, replicate}
use Rattle.std.proofs.Math.Path.{refl, ap}
use mathlib.Core.List.{List, [], ◌∷◌, ◌++◌, map}
use Prim.Native.Nat.{ℕ, zero, suc, ◌≤◌, ◌<◌}
use Rattle.std.proofs.Common.{arith}
use Rattle.lists.specs.Lay.{lay}

module _ {A : Type 0} (b : A) where
  unfoldable pub padded : ℕ → List A → List A
  padded zero l = []
  padded (suc n) [] = b ∷ padded n []
  padded (suc n) (x ∷ l) = x ∷ padded n l

  pub padded_none : (n : ℕ) → padded n [] ≡ replicate n b
  unfolding padded
  padded_none zero = refl
  padded_none (suc n) = ap (b ∷◌) (padded_none n)

  pub padded_length : (n : ℕ) (l : List A) → length (padded n l) ≡ n
  unfolding padded
  padded_length zero l = refl
  padded_length (suc n) [] = ap suc (padded_length n [])
  padded_length (suc n) (x ∷ l) = ap suc (padded_length n l)

  -- what was padded is read again
  pub padded_take : (n : ℕ) (l : List A) → length l ≤ n → take (length l) (padded n l) ≡ l
  unfolding padded
  padded_take zero [] h = refl
  padded_take zero (x ∷ l) h = absurd (omega arith)
  padded_take (suc n) [] h = refl
  padded_take (suc n) (x ∷ l) h = ap (x ∷◌) (padded_take n l (omega arith))

  pub padded_get : (n : ℕ) (l : List A) (i : ℕ) → length l ≤ n → get_or (padded n l) i b ≡ get_or l i b
  unfolding padded
  padded_get zero [] i h = refl
  padded_get zero (x ∷ l) i h = absurd (omega arith)
  padded_get (suc n) [] zero h = refl
  padded_get (suc n) [] (suc i) h = padded_get n [] i (omega arith)
  padded_get (suc n) (x ∷ l) zero h = refl
  padded_get (suc n) (x ∷ l) (suc i) h = padded_get n l i (omega arith)

  -- one element changed
  pub padded_set : (n : ℕ) (l : List A) (i : ℕ) (a : A) → i < length l → set (padded n l) i a ≡ padded n (set l i a)
  unfolding padded
  padded_set zero l i a h = refl
  padded_set (suc n) [] i a h = absurd (omega arith)
  padded_set (suc n) (x ∷ l) zero a h = refl
  padded_set (suc n) (x ∷ l) (suc i) a h = ap (x ∷◌) (padded_set n l i a (omega arith))

  -- one more behind the last; nothing changes where the array is full
  pub padded_more : (n : ℕ) (l : List A) (a : A) → set (padded n l) (length l) a ≡ padded n (l ++ (a ∷ []))
  unfolding padded
  padded_more zero l a = refl
  padded_more (suc n) [] a = refl
  padded_more (suc n) (x ∷ l) a = ap (x ∷◌) (padded_more n l a)

  -- a new list laid over the old one
  pub padded_lay : (n : ℕ) (old new : List A) → length old ≤ n → lay b (padded n old) new (length old) ≡ padded n new
  unfolding padded lay
  padded_lay zero old new h = refl
  padded_lay (suc n) [] [] h = refl
  padded_lay (suc n) [] (a ∷ new) h = ap (a ∷◌) (padded_lay n [] new (omega arith))
  padded_lay (suc n) (x ∷ old) [] h = ap (b ∷◌) (padded_lay n old [] (omega arith))
  padded_lay (suc n) (x ∷ old) (a ∷ new) h = ap (a ∷◌) (padded_lay n old new (omega arith))

pub padded_map : {A B : Type 0} (f : A → B) (b : A) (n : ℕ) (l : List A) → map f (padded b n l) ≡ padded (f b) n (map f l)
unfolding padded
padded_map f b zero l = refl
padded_map f b (suc n) [] = ap (f b ∷◌) (padded_map f b n [])
padded_map f b (suc n) (x ∷ l) = ap (f x ∷◌) (padded_map f b n l)
