-- Document 01, "scope parents are walked upward, the number falling": a scope and its ancestors. Assumes nothing.
use Rattle.std.specs.Prelude.{◌≡◌, Bool, eqb}
use Rattle.std.proofs.Math.Path.{refl, ap, sym}
use Rattle.std.proofs.Common.{◌∙◌, le_refl}
use Rattle.std.proofs.Math.Bool.{true, false, cond}
use mathlib.Core.List.{List, [], ◌∷◌}
use Prim.Native.Nat.{ℕ, zero, suc, ◌≤◌, ◌<◌}
use native.Mathlib.Omega.{arith}
use Rattle.std.proofs.Math.Dec.{ltb}
use borrow.Author.Tests.{ltb-true, lt-ltb, le-ltb, eq-eqb, ne_eqb}
use Rattle.lists.specs.Lists.{any}
use Rattle.table_rows.specs.Bytes.{Image}
use Rattle.table_rows.specs.Rows.{parent}

-- a parent that is no lower, as none is, ends the way; the bound is for antt alone
unfoldable pub lineage_in : ℕ → Image → ℕ → List ℕ
lineage_in zero s i = i ∷ []
lineage_in (suc n) s i = i ∷ cond (ltb (parent s i) i) (lineage_in n s (parent s i)) []

-- the scope and all its ancestors
unfoldable pub lineage : Image → ℕ → List ℕ
lineage s i = lineage_in i s i

-- the ancestors alone
unfoldable pub ancestors : Image → ℕ → List ℕ
ancestors s i = cond (ltb (parent s i) i) (lineage s (parent s i)) []

-- scope i lies in the subtree of the scope `top`, "itself included"
unfoldable pub in_subtree : Image → ℕ → ℕ → Bool
in_subtree s top i = any (eqb top) (lineage s i)

-- scope i lies "strictly under" the scope `top`
unfoldable pub under : Image → ℕ → ℕ → Bool
under s top i = any (eqb top) (ancestors s i)

-- ---- the way up, one step at a time

module _ (s : Image) where
  lowest : (n i : ℕ) → i ≤ 0 → lineage_in n s i ≡ i ∷ []
  unfolding lineage_in
  lowest zero i l = refl
  lowest (suc n) i l = let h : i ≤ parent s i = omega arith in simp (le-ltb _ _ h)

  -- the bound does not matter, once it is no less than the scope's number
  enough : (m n i : ℕ) → i ≤ m → i ≤ n → lineage_in m s i ≡ lineage_in n s i
  unfolding lineage_in
  enough zero n i l k = sym (lowest n i l)
  enough (suc m) zero i l k = lowest (suc m) i k
  enough (suc m) (suc n) i l k = ap (i ∷◌) (go (ltb (parent s i) i) refl λ a b. enough m n (parent s i) a b)
    where
      go : (b : Bool) → ltb (parent s i) i ≡ b →
          (parent s i ≤ m → parent s i ≤ n → lineage_in m s (parent s i) ≡ lineage_in n s (parent s i)) →
          cond b (lineage_in m s (parent s i)) [] ≡ cond b (lineage_in n s (parent s i)) []
      go true e r = let z : parent s i < i = ltb-true _ _ e in r (omega arith) (omega arith)
      go false e r = refl

  pub lineage_step : (i : ℕ) → lineage s i ≡ i ∷ ancestors s i
  unfolding lineage ancestors lineage_in
  lineage_step i = enough i (suc i) i (le_refl i) (omega arith) ∙ ap (i ∷◌) (go (ltb (parent s i) i) refl)
    where
      go : (b : Bool) → ltb (parent s i) i ≡ b → cond b (lineage_in i s (parent s i)) [] ≡ cond b (lineage_in (parent s i) s (parent s i)) []
      go true e = let z : parent s i < i = ltb-true _ _ e in enough i (parent s i) (parent s i) (omega arith) (le_refl (parent s i))
      go false e = refl

  module _ {p i : ℕ} (e : p ≡ parent s i) where
    -- a parent that is lower goes on
    pub ancestors_on : p < i → ancestors s i ≡ lineage s p
    unfolding ancestors
    ancestors_on h = simp (← e, lt-ltb _ _ h)

    -- one that is not ends the way
    pub ancestors_end : i ≤ p → ancestors s i ≡ []
    unfolding ancestors
    ancestors_end h = simp (← e, le-ltb _ _ h)

-- ---- the cases of the two tests, as the code meets them

module _ (s : Image) (top i : ℕ) where
  pub subtree_self : i ≡ top → true ≡ in_subtree s top i
  unfolding in_subtree any
  subtree_self h = simp (lineage_step, eq-eqb _ _ (sym h))

  pub subtree_on : {p : ℕ} {r : Bool} → (i ≡ top → ⊥) → p ≡ parent s i → p < i → r ≡ in_subtree s top p → r ≡ in_subtree s top i
  unfolding in_subtree any
  subtree_on n e h q = q ∙ sym (simp (lineage_step s i, ne_eqb top i (λ x. n (sym x)), ancestors_on s e h))

  pub subtree_end : {p : ℕ} → (i ≡ top → ⊥) → p ≡ parent s i → i ≤ p → false ≡ in_subtree s top i
  unfolding in_subtree any
  subtree_end n e h = sym (simp (lineage_step s i, ne_eqb top i (λ x. n (sym x)), ancestors_end s e h))

  pub under_on : {p : ℕ} {r : Bool} → p ≡ parent s i → p < i → r ≡ in_subtree s top p → r ≡ under s top i
  unfolding under in_subtree
  under_on e h q = q ∙ sym (simp (ancestors_on s e h))

  pub under_end : {p : ℕ} → p ≡ parent s i → i ≤ p → false ≡ under s top i
  unfolding under any
  under_end e h = sym (simp (ancestors_end s e h))

pub ruleset subtrees = (subtree_self, subtree_on, subtree_end, under_on, under_end)
