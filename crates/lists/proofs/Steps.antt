-- A fold over what is kept of the numbers that are left. Assumes nothing.
use Prim.Native.Nat.{ℕ, ◌+◌, ◌-◌, ◌<◌}
use Rattle.std.specs.Prelude.{◌≡◌, Bool, cond, ◌∷◌, map}
use Rattle.std.proofs.Math.Path.{refl}
use Rattle.std.proofs.Math.Bool.{true, false}
use Rattle.lists.specs.Lists.{keep, from, foldl}
use Rattle.lists.specs.Steps.{from_next}

-- a fold over what is kept of them, by what each stands for
module _ {B : Type 0} (f : B → ℕ → B) (p : ℕ → Bool) (g : ℕ → ℕ) (n i : ℕ) (b : B) where
  pub fold_next : i < n → foldl f (cond (p i) (f b (g i)) b) (map g (keep p (from (i + 1) (n - (i + 1))))) ≡ foldl f b (map g (keep p (from i (n - i))))
  unfolding foldl keep
  fold_next h = rw (from_next n i h) (go (p i))
    where
      go : (t : Bool) → foldl f (cond t (f b (g i)) b) (map g (keep p (from (i + 1) (n - (i + 1))))) ≡
          foldl f b (map g (cond t (i ∷ keep p (from (i + 1) (n - (i + 1)))) (keep p (from (i + 1) (n - (i + 1))))))
      go true = refl
      go false = refl
