-- Which slots a list's elements have, as marks in one array: what has an unmarked slot is like none of them. Assumes nothing.
use Rattle.std.specs.Prelude.{Bool, not, ◌&&◌, ◌||◌, ◌≡◌, ℕ, zero, suc, ◌-◌, ◌≤◌, ◌<◌, ltb, leb, length, take, drop, set}
use Rattle.std.proofs.Math.Bool.{true, false}
use Rattle.std.proofs.Math.Path.{refl, sym}
use Rattle.std.proofs.Common.{◌∙◌, ⊎_elim, arith, le-leb, ltb-true, ltb-false, get_or-set_same, get_or-set_other}
use mathlib.Core.List.{List, [], ◌∷◌}
use Rattle.std.proofs.lemmas.Bool.{lt-leb}
use Rattle.std.proofs.Math.ListN.{get_or}
use Rattle.lists.specs.Tests.{same?, and_left, and_right, and_both}
use Rattle.lists.specs.Lists.{any, every, distinct, drop_pred, drop_take_end}
use Rattle.lists.specs.Held.{things_of, things_length}
use Rattle.lists.specs.Loops.{place, place_any}

no_way : {P : Type 0} → ◌≡◌ {A = Bool} false true → P
no_way e = absurd (let y : ◌≡◌ {A = ℕ} 0 1 = cc in omega arith)

-- ---- tests of a whole list

pub any_same : {A : Type 0} (p q : A → Bool) → ((a : A) → p a ≡ q a) → (l : List A) → any p l ≡ any q l
unfolding any
any_same p q h [] = refl
any_same p q h (a ∷ l) = rw (h a, any_same p q h l)

-- none passes a test that all fail
pub any_no : {A : Type 0} (p : A → Bool) → ((a : A) → p a ≡ false) → (l : List A) → any p l ≡ false
unfolding any
any_no p h [] = refl
any_no p h (a ∷ l) = rw (h a, any_no p h l)

-- every one passes where none fails
pub every_not : {A : Type 0} (p : A → Bool) (l : List A) → every p l ≡ not (any (λ a. not (p a)) l)
unfolding any every
every_not p [] = refl
every_not p (a ∷ l) = go (p a) (every_not p l)
  where
    go : (b : Bool) → every p l ≡ not (any (λ a. not (p a)) l) → (b && every p l) ≡ not (not b || any (λ a. not (p a)) l)
    go true h = h
    go false h = refl

-- none passes where the first that does is past the end
pub place_not : {A : Type 0} (p : A → Bool) (l : List A) → not (any p l) ≡ leb (length l) (place p l)
place_not p l = rw (place_any p l) (go (ltb (place p l) (length l)) refl)
  where
    go : (b : Bool) → ltb (place p l) (length l) ≡ b → not b ≡ leb (length l) (place p l)
    go true e = sym (lt-leb (length l) (place p l) (ltb-true (place p l) (length l) e))
    go false e = sym (le-leb (length l) (place p l) (ltb-false (place p l) (length l) e))

-- ---- marks

module _ {A : Type 0} (slot : A → ℕ) where
  unfoldable pub marked : List Bool → List A → Bool
  marked seen l = every (λ a. get_or seen (slot a) false) l

  stays : (seen : List Bool) (k j : ℕ) → k < length seen → get_or seen j false ≡ true → get_or (set seen k true) j false ≡ true
  stays seen k j h e =
      ⊎_elim (λ (y : j ≡ k). rw y (get_or-set_same seen k true false h)) (λ (y : j ≡ k → ⊥). get_or-set_other seen k j true false y ∙ e) (same? j k)

  marked_stays : (seen : List Bool) (k : ℕ) (l : List A) → k < length seen → marked seen l ≡ true → marked (set seen k true) l ≡ true
  unfolding marked every
  marked_stays seen k [] h e = refl
  marked_stays seen k (a ∷ l) h e =
      and_both _ _ (stays seen k (slot a) h (and_left _ (every (λ a. get_or seen (slot a) false) l) e)) (marked_stays seen k l h (and_right (get_or seen (slot a) false) _ e))

  marked_more : (seen : List Bool) (a : A) (l : List A) → slot a < length seen → marked seen l ≡ true → marked (set seen (slot a) true) (a ∷ l) ≡ true
  unfolding marked every
  marked_more seen a l h e = and_both _ _ (get_or-set_same seen (slot a) true false h) (marked_stays seen (slot a) l h e)

  module _ (same : A → A → Bool) (fits : (a b : A) → same a b ≡ true → slot a ≡ slot b) where
    pub marked_new : (seen : List Bool) (a : A) (l : List A) → marked seen l ≡ true → get_or seen (slot a) false ≡ false → any (same a) l ≡ false
    unfolding marked every any
    marked_new seen a [] e f = refl
    marked_new seen a (b ∷ l) e f = go (same a b) refl (marked_new seen a l (and_right (get_or seen (slot b) false) _ e) f)
      where
        go : (t : Bool) → same a b ≡ t → any (same a) l ≡ false → (t || any (same a) l) ≡ false
        go true s k = no_way (sym (rw (fits a b s) at f) ∙ and_left (get_or seen (slot b) false) (every (λ a. get_or seen (slot a) false) l) e)
        go false s k = k

-- ---- the loop from the end on

cut : {A : Type 0} (same : A → A → Bool) (k : ℕ) (l : List A) → distinct same (drop k l) ≡ false → distinct same l ≡ false
unfolding distinct
cut same zero l e = e
cut same (suc k) [] e = e
cut same (suc k) (a ∷ l) e = simp (cut same k l e) (never (not (any (same a) l)))
  where
    never : (b : Bool) → (b && false) ≡ false
    never true = refl
    never false = refl

module _ {A : Type 0} (decode : List ℕ → A) (encode : A → List ℕ) (w n : ℕ) (long : (a : A) → length (encode a) ≡ w) (ws : List ℕ) (m : ℕ) where
  abbrev left : ℕ → List A
  left i = drop i (take m (things_of decode encode w n long ws))

  pub marked_none : (slot : A → ℕ) (seen : List Bool) → marked slot seen (left m) ≡ true
  unfolding marked every
  marked_none slot seen = rw (drop_take_end m (things_of decode encode w n long ws))

  pub differ_none : (same : A → A → Bool) → distinct same (left m) ≡ true
  unfolding distinct
  differ_none same = rw (drop_take_end m (things_of decode encode w n long ws))

  module _ (i : ℕ) (d a : A) (h : 0 < i) (u : i ≤ m) (f : m ≤ n) (r : a ≡ get_or (things_of decode encode w n long ws) (i - 1) d) where
    one : left (i - 1) ≡ a ∷ left i
    one = rw (drop_pred (things_of decode encode w n long ws) m i d h u (rw things_length f), r)

    pub marked_one : (slot : A → ℕ) (seen : List Bool) (s k : ℕ) → s ≡ slot a → s < k → length seen ≡ k → marked slot seen (left i) ≡ true → marked slot (set seen s true) (left (i - 1)) ≡ true
    marked_one slot seen s k e b l q = rw (one, e) (marked_more slot seen a (left i) (rw (← e, l) b) q)

    module _ (same : A → A → Bool) (b : Bool) (e : b ≡ not (any (same a) (left i))) where
      pub differ_one : distinct same (left i) ≡ true → b ≡ true → distinct same (left (i - 1)) ≡ true
      unfolding distinct
      differ_one k y = rw one (simp (sym e ∙ y, k))

      pub differ_not : b ≡ false → false ≡ distinct same (take m (things_of decode encode w n long ws))
      unfolding distinct
      differ_not y = sym (cut same (i - 1) (take m (things_of decode encode w n long ws)) (rw one (simp (sym e ∙ y))))

  pub differ_all : (same : A → A → Bool) (i : ℕ) → i ≤ 0 → distinct same (left i) ≡ true → true ≡ distinct same (take m (things_of decode encode w n long ws))
  differ_all same i z e = let y : i ≡ 0 = omega arith in sym (rw y at e)
