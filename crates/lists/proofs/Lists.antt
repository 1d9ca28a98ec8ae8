-- Laws of those that are kept, which rest on their order or their number. Assumes nothing.
use Rattle.std.specs.Prelude.{Bool, true, false, cond, ◌≡◌, length, take, get_or}
use Rattle.std.proofs.Math.Path.{refl}
use Rattle.std.proofs.Common.{add-one}
use mathlib.Core.List.{List, [], ◌∷◌, ◌++◌, append-nil}
use Prim.Native.Nat.{ℕ, suc, ◌+◌, ◌≤◌, ◌<◌}
use native.Mathlib.Omega.{arith}
use Rattle.std.proofs.Math.Seq.{take-suc}
use Rattle.lists.specs.Lists.{keep}

-- ---- one element more, and two lists joined

module _ {A : Type 0} (p : A → Bool) where
  keep_put : (t : Bool) (a : A) (x y : List A) → cond t (a ∷ (x ++ y)) (x ++ y) ≡ cond t (a ∷ x) x ++ y
  keep_put true a x y = refl
  keep_put false a x y = refl

  pub keep_append : (x y : List A) → keep p (x ++ y) ≡ keep p x ++ keep p y
  unfolding keep
  keep_append [] y = refl
  keep_append (a ∷ x) y = rw (keep_append x y) (keep_put (p a) a (keep p x) (keep p y))

  -- ---- sizes

  keep_less : (t : Bool) (a : A) (x : List A) (n : ℕ) → length x ≤ n → length (cond t (a ∷ x) x) ≤ suc n
  keep_less true a x n h = omega arith
  keep_less false a x n h = omega arith

  pub keep_shorter : (l : List A) → length (keep p l) ≤ length l
  unfolding keep
  keep_shorter [] = omega arith
  keep_shorter (a ∷ l) = keep_less (p a) a (keep p l) (length l) (keep_shorter l)

  -- ---- one element more of the front of a list, as a loop goes over it

  module _ (l : List A) (i : ℕ) (d : A) (h : i < length l) where
    pub keep_suc_yes : p (get_or l i d) ≡ true → keep p (take (i + 1) l) ≡ keep p (take i l) ++ (get_or l i d ∷ [])
    unfolding keep
    keep_suc_yes e = rw (add-one, take-suc l i d, keep_append) (simp e)

    pub keep_suc_no : p (get_or l i d) ≡ false → keep p (take (i + 1) l) ≡ keep p (take i l)
    unfolding keep
    keep_suc_no e = rw (add-one, take-suc l i d, keep_append) (simp (e, append-nil))
