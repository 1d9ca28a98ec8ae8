-- An array filled one by one, by the places' numbers. Assumes nothing.
use Rattle.std.specs.Prelude.{◌≡◌, length, set, replicate}
use Rattle.std.proofs.Math.Path.{ap, sym}
use Rattle.std.proofs.Common.{◌∙◌, arith, add-one}
use mathlib.Core.List.{[], ◌∷◌, ◌++◌, map}
use Prim.Native.Nat.{ℕ, zero, suc, ◌+◌}
use Rattle.std.proofs.lemmas.List.{length-map}
use Rattle.lists.specs.Lists.{from}
use Rattle.lists.specs.Every.{length_from}
use Rattle.state_room.specs.Padded.{padded, padded_none, padded_more}

module _ {A : Type 0} (b : A) (n : ℕ) (f : ℕ → A) where
  more : (i k : ℕ) → map f (from k (suc i)) ≡ map f (from k i) ++ (f (k + i) ∷ [])
  unfolding from
  more zero k = ap (λ x. f x ∷ []) (omega arith)
  more (suc i) k = ap (f k ∷◌) (more i (suc k) ∙ ap (λ x. map f (from (suc k) i) ++ (f x ∷ [])) (omega arith))

  long : (i : ℕ) → length (map f (from 0 i)) ≡ i
  long i = rw (length-map, length_from)

  pub fill_none : replicate n b ≡ padded b n (map f (from 0 0))
  unfolding from
  fill_none = sym (padded_none b n)

  pub fill_more : (i : ℕ) → set (padded b n (map f (from 0 i))) i (f i) ≡ padded b n (map f (from 0 (i + 1)))
  fill_more i =
      let p = padded_more b n (map f (from 0 i)) (f i) in
      let z : 0 + i ≡ i = omega arith in
      rw (add-one, more i 0, z) (rw (long i) at p)
