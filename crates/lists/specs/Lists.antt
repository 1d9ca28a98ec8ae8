-- Keeping, losing, counting and asking by a test, folding, and what a loop over the front of an array knows, with their laws.
-- Assumes nothing.
use Rattle.std.specs.Prelude.{Bool, true, false, cond, not, ◌&&◌, ◌||◌, ◌≡◌, length, take, drop, get_or, set}
use Rattle.std.proofs.Math.Path.{refl, subst, subst⁻¹}
use Rattle.std.proofs.Common.{◌∙◌, sym, add-one, length-take, length-append, drop_of_length-le, drop-cons, get_or-take, get_or-drop, get_or-append-add}
use mathlib.Core.List.{List, [], ◌∷◌, ◌++◌, append_assoc, map, map-append, Memᴰ}
use Prim.Native.Nat.{ℕ, zero, suc, ◌+◌, ◌-◌, ◌≤◌, ◌<◌}
use native.Mathlib.Omega.{arith}
use Rattle.std.proofs.Math.Dec.{T}
use Rattle.std.proofs.lemmas.List.{length-map, get_or_at, set_at}
use Rattle.std.proofs.Math.Seq.{set-append_seam, take-suc}
use Rattle.lists.specs.Tests.{and_left, and_right, T-left, T-right}

module _ {A : Type 0} (p : A → Bool) where
  -- those that pass, in their order
  unfoldable pub keep : List A → List A
  keep [] = []
  keep (a ∷ l) = cond (p a) (a ∷ keep l) (keep l)

  -- those that don't
  unfoldable pub lose : List A → List A
  lose [] = []
  lose (a ∷ l) = cond (p a) (lose l) (a ∷ lose l)

  -- how many pass
  unfoldable pub count : List A → ℕ
  count [] = 0
  count (a ∷ l) = cond (p a) (suc (count l)) (count l)

  -- some one passes
  unfoldable pub any : List A → Bool
  any [] = false
  any (a ∷ l) = p a || any l

  -- every one passes
  unfoldable pub every : List A → Bool
  every [] = true
  every (a ∷ l) = p a && every l

-- no two are the same
unfoldable pub distinct : {A : Type 0} → (A → A → Bool) → List A → Bool
distinct same [] = true
distinct same (a ∷ l) = not (any (same a) l) && distinct same l

-- the n numbers from i on
unfoldable pub from : ℕ → ℕ → List ℕ
from i zero = []
from i (suc n) = i ∷ from (suc i) n

-- the first that passes is changed, or a new one comes last
unfoldable pub upsert : {A : Type 0} → (A → Bool) → (A → A) → A → List A → List A
upsert p f x [] = x ∷ []
upsert p f x (a ∷ l) = cond (p a) (f a ∷ l) (a ∷ upsert p f x l)

-- sorted, where `after a b` says that a comes after b; what ties keeps its order
unfoldable pub insert_by : {A : Type 0} → (A → A → Bool) → A → List A → List A
insert_by after a [] = a ∷ []
insert_by after a (b ∷ l) = cond (after a b) (b ∷ insert_by after a l) (a ∷ (b ∷ l))

unfoldable pub sort_by : {A : Type 0} → (A → A → Bool) → List A → List A
sort_by after [] = []
sort_by after (a ∷ l) = insert_by after a (sort_by after l)

-- ---- one element more, and two lists joined

module _ {A : Type 0} (p : A → Bool) where
  pub lose_no : (a : A) (l : List A) → p a ≡ false → lose p (a ∷ l) ≡ a ∷ lose p l
  unfolding lose
  lose_no a l h = simp h

  pub count_yes : (a : A) (l : List A) → p a ≡ true → count p (a ∷ l) ≡ suc (count p l)
  unfolding count
  count_yes a l h = simp h

  pub count_no : (a : A) (l : List A) → p a ≡ false → count p (a ∷ l) ≡ count p l
  unfolding count
  count_no a l h = simp h

  lose_put : (t : Bool) (a : A) (x y : List A) → cond t (x ++ y) (a ∷ (x ++ y)) ≡ cond t x (a ∷ x) ++ y
  lose_put true a x y = refl
  lose_put false a x y = refl

  pub lose_append : (x y : List A) → lose p (x ++ y) ≡ lose p x ++ lose p y
  unfolding lose
  lose_append [] y = refl
  lose_append (a ∷ x) y = rw (lose_append x y) (lose_put (p a) a (lose p x) (lose p y))

  count_put : (t : Bool) (m n : ℕ) → cond t (suc (m + n)) (m + n) ≡ cond t (suc m) m + n
  count_put true m n = omega arith
  count_put false m n = refl

  pub count_append : (x y : List A) → count p (x ++ y) ≡ count p x + count p y
  unfolding count
  count_append [] y = omega arith
  count_append (a ∷ x) y = rw (count_append x y) (count_put (p a) (count p x) (count p y))

  or_put : (b s t : Bool) → (b || (s || t)) ≡ ((b || s) || t)
  or_put true s t = refl
  or_put false s t = refl

  pub any_append : (x y : List A) → any p (x ++ y) ≡ (any p x || any p y)
  unfolding any
  any_append [] y = refl
  any_append (a ∷ x) y = rw (any_append x y) (or_put (p a) (any p x) (any p y))

  and_put : (b s t : Bool) → (b && (s && t)) ≡ ((b && s) && t)
  and_put true s t = refl
  and_put false s t = refl

  pub every_append : (x y : List A) → every p (x ++ y) ≡ (every p x && every p y)
  unfolding every
  every_append [] y = refl
  every_append (a ∷ x) y = rw (every_append x y) (and_put (p a) (every p x) (every p y))

  -- ---- sizes

  lose_less : (t : Bool) (a : A) (x : List A) (n : ℕ) → length x ≤ n → length (cond t x (a ∷ x)) ≤ suc n
  lose_less true a x n h = omega arith
  lose_less false a x n h = omega arith

  pub lose_shorter : (l : List A) → length (lose p l) ≤ length l
  unfolding lose
  lose_shorter [] = omega arith
  lose_shorter (a ∷ l) = lose_less (p a) a (lose p l) (length l) (lose_shorter l)

  count_less : (t : Bool) (m n : ℕ) → m ≤ n → cond t (suc m) m ≤ suc n
  count_less true m n h = omega arith
  count_less false m n h = omega arith

  pub count_shorter : (l : List A) → count p l ≤ length l
  unfolding count
  count_shorter [] = omega arith
  count_shorter (a ∷ l) = count_less (p a) (count p l) (length l) (count_shorter l)

  -- ---- by an index

  or_there : (b t : Bool) → t ≡ true → (b || t) ≡ true
  or_there true t h = refl
  or_there false t h = h

  pub any_at : (l : List A) (i : ℕ) (d : A) → i < length l → p (get_or l i d) ≡ true → any p l ≡ true
  unfolding any
  any_at [] i d h e = absurd (omega arith)
  any_at (a ∷ l) zero d h e = rw e
  any_at (a ∷ l) (suc i) d h e = or_there (p a) (any p l) (any_at l i d (omega arith) e)

  pub every_at : (l : List A) (i : ℕ) (d : A) → i < length l → every p l ≡ true → p (get_or l i d) ≡ true
  unfolding every
  every_at [] i d h e = absurd (omega arith)
  every_at (a ∷ l) zero d h e = and_left (p a) (every p l) e
  every_at (a ∷ l) (suc i) d h e = every_at l i d (omega arith) (and_right (p a) (every p l) e)

  -- ---- one element more of the front of a list, as a loop goes over it

  module _ (l : List A) (i : ℕ) (d : A) (h : i < length l) where
    pub any_suc : any p (take i l) ≡ false → p (get_or l i d) ≡ false → any p (take (i + 1) l) ≡ false
    unfolding any
    any_suc f e = rw (add-one, take-suc l i d, any_append) (simp (f, e))

-- ---- a rule of a table: one test that antt computes over the whole list, and the rule at each entry

module _ {A : Type 0} (p : A → Bool) where
  pub entry : (x : A) {xs : List A} → T (every p xs) → Memᴰ x xs → T (p x)
  unfolding every
  entry x t (Memᴰ.head {x = y} {xs = ys} e) = subst (λ z. T (p z)) (sym e) (T-left (p y) (every p ys) t)
  entry x t (Memᴰ.tail {x = y} {xs = ys} m) = entry x (T-right (p y) (every p ys) t) m

  -- the same by an index, where the value past the end passes too
  pub entry_at : (xs : List A) (d : A) → T (p d) → T (every p xs) → (k : ℕ) → T (p (get_or xs k d))
  unfolding every
  entry_at [] d z t k = z
  entry_at (x ∷ xs) d z t zero = T-left (p x) (every p xs) t
  entry_at (x ∷ xs) d z t (suc k) = entry_at xs d z (T-right (p x) (every p xs) t) k

-- ---- the front of an array

module _ {A : Type 0} where
  pub drop_take_end : (n : ℕ) (l : List A) → drop n (take n l) ≡ []
  drop_take_end n l = drop_of_length-le (take n l) (subst⁻¹ (λ (k : ℕ). k ≤ n) (length-take n l) (omega arith))

  -- one step down: the element before i comes in front
  pub drop_pred : (l : List A) (n i : ℕ) (d : A) → 0 < i → i ≤ n → n ≤ length l → drop (i - 1) (take n l) ≡ get_or l (i - 1) d ∷ drop i (take n l)
  drop_pred l n i d a b e =
      let s : suc (i - 1) ≡ i = omega arith in
      let h : i - 1 < length (take n l) = rw length-take (omega arith) in
      let g : i - 1 < n = omega arith in
      drop-cons (take n l) (i - 1) d h ∙ rw (s, get_or-take n l (i - 1) d g)

  -- one step up: the element at i goes
  pub drop_step : (l : List A) (n i : ℕ) (d : A) → i < n → n ≤ length l → drop i (take n l) ≡ get_or l i d ∷ drop (i + 1) (take n l)
  drop_step l n i d h e =
      let g : i < length (take n l) = rw length-take (omega arith) in
      rw (drop-cons (take n l) i d g, get_or-take n l i d h, add-one)

  -- the first elements put over the front of a list
  abbrev pub over : List A → List A → List A
  over f l = f ++ drop (length f) l

  pub over_read : (f l : List A) (i : ℕ) (d : A) → length f ≤ i → get_or (over f l) i d ≡ get_or l i d
  over_read f l i d h =
      let e : length f + (i - length f) ≡ i = omega arith in
      let r = get_or-append-add f (drop (length f) l) (i - length f) d ∙ get_or-drop (length f) l (i - length f) d in
      rw e at r

  pub over_write : (f l : List A) (a : A) → length f < length l → set (over f l) (length f) a ≡ over (f ++ (a ∷ [])) l
  over_write f l a h =
      rw (drop-cons l (length f) a h, set-append_seam, length-append, add-one, append_assoc)

module _ {A : Type 0} (f : A → A) where
  -- the first i elements changed, the others as they were
  abbrev pub front : ℕ → List A → List A
  front i l = map f (take i l) ++ drop i l

  front_length : (i : ℕ) (l : List A) → i ≤ length l → length (map f (take i l)) ≡ i
  front_length i l h = simp (length-map, length-take) (omega arith)

  pub front_read : (i : ℕ) (l : List A) (d : A) → i < length l → get_or (front i l) i d ≡ get_or l i d
  front_read i l d h = rw (drop-cons l i d h) (get_or_at (map f (take i l)) (get_or l i d) (drop (suc i) l) d i (front_length i l (omega arith)))

  pub front_write : (i : ℕ) (l : List A) (d : A) → i < length l → set (front i l) i (f (get_or l i d)) ≡ front (i + 1) l
  front_write i l d h =
      rw (add-one, take-suc l i d h, map-append, append_assoc, drop-cons l i d h)
      (set_at (map f (take i l)) (get_or l i d) (drop (suc i) l) (f (get_or l i d)) i (front_length i l (omega arith)))

-- ---- folding

module _ {A B : Type 0} (f : B → A → B) where
  unfoldable pub foldl : B → List A → B
  foldl b [] = b
  foldl b (a ∷ l) = foldl (f b a) l
