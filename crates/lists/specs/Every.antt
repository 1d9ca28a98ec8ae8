-- Tests by cases, what a step that is done tells, what passes a test after a list changed, and walks that keep a fact.
-- Assumes nothing.
use Rattle.std.specs.Prelude.{ℕ, zero, suc, ◌+◌, ◌≤◌, ◌<◌, ◌≡◌, Bool, cond, ◌&&◌, ◌||◌, ltb, length, get_or, set}
use Rattle.std.proofs.Math.Path.{refl}
use Rattle.std.proofs.Common.{ap, ◌∙◌, sym, arith, lt-ltb, ltb-true}
use Rattle.std.proofs.Math.Bool.{true, false, not}
use mathlib.Core.List.{List, [], ◌∷◌, ◌++◌, map}
use Rattle.lists.specs.Tests.{and_left, and_right}
use Rattle.lists.specs.Lists.{lose, count, every, from, insert_by, sort_by}
use Rattle.lists.specs.Walk.{Result, done, refused, walk, bind_done}

-- ---- tests

pub by_test : {P : Type 0} (b : Bool) → (b ≡ true → P) → (b ≡ false → P) → P
by_test true f g = f refl
by_test false f g = g refl

pub no_way : {P : Type 0} → false ≡ true → P
no_way e = absurd (let y : ◌≡◌ {A = ℕ} 0 1 = cc in omega arith)

pub both : {a b : Bool} → a ≡ true → b ≡ true → (a && b) ≡ true
both p q = simp (p, q)

pub or_left : {a : Bool} (b : Bool) → a ≡ true → (a || b) ≡ true
or_left b p = simp p

pub or_right : (a : Bool) {b : Bool} → b ≡ true → (a || b) ≡ true
or_right true p = refl
or_right false p = p

-- the second, where the first fails
pub or_else_lem : (a b : Bool) → a ≡ false → (a || b) ≡ true → b ≡ true
or_else_lem a b p e = simp p at e

pub not_both : (a b : Bool) → (a || b) ≡ false → (a ≡ false) × (b ≡ false)
not_both true b e = (e, no_way (sym e))
not_both false b e = (refl, e)

pub not_so : (a : Bool) → not a ≡ true → a ≡ false
not_so true e = sym e
not_so false e = refl

-- ---- what a step that is done tells

module _ {R A : Type 0} where
  pub done_is : {a b : A} → ◌≡◌ {A = Result R A} (done a) (done b) → a ≡ b
  done_is e = cc

  pub not_done : {P : Type 0} {r : R} {a : A} → refused r ≡ done a → P
  not_done e = absurd (let z : ◌≡◌ {A = ℕ} 0 1 = cc in omega arith)

  -- a test that had to hold
  pub need_is : (b : Bool) (x : R) {r : Result R A} {a : A} → cond b r (refused x) ≡ done a → (b ≡ true) × (r ≡ done a)
  need_is true x e = (refl, e)
  need_is false x e = not_done e

  -- one that had to fail
  pub unless_is : (b : Bool) (x : R) {r : Result R A} {a : A} → cond b (refused x) r ≡ done a → (b ≡ false) × (r ≡ done a)
  unless_is true x e = not_done e
  unless_is false x e = (refl, e)

pub either_is : {A P : Type 0} (b : Bool) {x y z : A} → cond b x y ≡ z → (b ≡ true → x ≡ z → P) → (b ≡ false → y ≡ z → P) → P
either_is true e f g = f refl e
either_is false e f g = g refl e

-- ---- every one passes

module _ {A : Type 0} (p : A → Bool) where
  module _ (a : A) (l : List A) where
    pub every_head : every p (a ∷ l) ≡ true → p a ≡ true
    unfolding every
    every_head e = and_left (p a) _ e

    pub every_tail : every p (a ∷ l) ≡ true → every p l ≡ true
    unfolding every
    every_tail e = and_right (p a) _ e

    pub every_more : p a ≡ true → every p l ≡ true → every p (a ∷ l) ≡ true
    unfolding every
    every_more h e = both h e

  pub every_none : every p [] ≡ true
  unfolding every
  every_none = refl

  pub every_all : ((a : A) → p a ≡ true) → (l : List A) → every p l ≡ true
  every_all h [] = every_none
  every_all h (a ∷ l) = every_more a l (h a) (every_all h l)

  pub every_imp : (q : A → Bool) → ((a : A) → p a ≡ true → q a ≡ true) → (l : List A) → every p l ≡ true → every q l ≡ true
  unfolding every
  every_imp q h [] e = refl
  every_imp q h (a ∷ l) e = both (h a (every_head a l e)) (every_imp q h l (every_tail a l e))

  pub every_both : (q : A → Bool) (l : List A) → every p l ≡ true → every q l ≡ true → every (λ a. p a && q a) l ≡ true
  unfolding every
  every_both q [] e f = refl
  every_both q (a ∷ l) e f = both (both (every_head a l e) (and_left (q a) _ f)) (every_both q l (every_tail a l e) (and_right (q a) _ f))

  -- those that stay pass the one, and fail the other
  pub every_lose : (q : A → Bool) (l : List A) → every p l ≡ true → every (λ a. p a && not (q a)) (lose q l) ≡ true
  unfolding every lose
  every_lose q [] e = refl
  every_lose q (a ∷ l) e = go (q a) refl (every_lose q l (every_tail a l e))
    where
      go : (b : Bool) → q a ≡ b → every (λ a. p a && not (q a)) (lose q l) ≡ true → every (λ a. p a && not (q a)) (cond b (lose q l) (a ∷ lose q l)) ≡ true
      go true x r = r
      go false x r = both (both (every_head a l e) (ap not x)) r

  pub every_get_or : (l : List A) (i : ℕ) (d : A) → p d ≡ true → every p l ≡ true → p (get_or l i d) ≡ true
  every_get_or [] i d h e = h
  every_get_or (a ∷ l) zero d h e = every_head a l e
  every_get_or (a ∷ l) (suc i) d h e = every_get_or l i d h (every_tail a l e)

  pub every_set : (l : List A) (i : ℕ) (x : A) → p x ≡ true → every p l ≡ true → every p (set l i x) ≡ true
  every_set [] i x h e = e
  every_set (a ∷ l) zero x h e = every_more x l h (every_tail a l e)
  every_set (a ∷ l) (suc i) x h e = every_more a (set l i x) (every_head a l e) (every_set l i x h (every_tail a l e))

  pub every_last : (l : List A) (x : A) → every p l ≡ true → p x ≡ true → every p (l ++ (x ∷ [])) ≡ true
  every_last [] x e h = every_more x [] h e
  every_last (a ∷ l) x e h = every_more a (l ++ (x ∷ [])) (every_head a l e) (every_last l x (every_tail a l e) h)

  every_insert : (after : A → A → Bool) (a : A) (l : List A) → p a ≡ true → every p l ≡ true → every p (insert_by after a l) ≡ true
  unfolding insert_by
  every_insert after a [] h e = every_more a [] h e
  every_insert after a (b ∷ l) h e = go (after a b) (every_insert after a l h (every_tail b l e))
    where
      go : (c : Bool) → every p (insert_by after a l) ≡ true → every p (cond c (b ∷ insert_by after a l) (a ∷ (b ∷ l))) ≡ true
      go true r = every_more b (insert_by after a l) (every_head b l e) r
      go false r = every_more a (b ∷ l) h e

  pub every_sort : (after : A → A → Bool) (l : List A) → every p l ≡ true → every p (sort_by after l) ≡ true
  unfolding sort_by
  every_sort after [] e = e
  every_sort after (a ∷ l) e = every_insert after a (sort_by after l) (every_head a l e) (every_sort after l (every_tail a l e))

pub every_map : {A B : Type 0} (f : A → B) (p : B → Bool) (l : List A) → every (λ a. p (f a)) l ≡ true → every p (map f l) ≡ true
every_map f p [] e = every_none p
every_map f p (a ∷ l) e = every_more p (f a) (map f l) (every_head (λ a. p (f a)) a l e) (every_map f p l (every_tail (λ a. p (f a)) a l e))

-- ---- what a walk keeps, where each that is listed passes a test

pub keep_walk :
    {R A S : Type 0} (I : S → Type 0) (q : A → Bool) (f : S → A → Result R S) →
    ((s : S) (a : A) (t : S) → q a ≡ true → I s → f s a ≡ done t → I t) → (l : List A) (s t : S) → every q l ≡ true → I s → walk f s l ≡ done t → I t
unfolding walk
keep_walk I q f h [] s t v i e = rw (done_is e) at i
keep_walk I q f h (a ∷ l) s t v i e =
    bind_done (f s a) (λ u. walk f u l) e λ u d r. keep_walk I q f h l u t (every_tail q a l v) (h s a u (every_head q a l v) i d) r

-- ---- the n numbers from i on

pub length_from : (i n : ℕ) → length (from i n) ≡ n
unfolding from
length_from i zero = refl
length_from i (suc n) = ap suc (length_from (suc i) n)

pub from_below : (n i m : ℕ) → i + n ≤ m → every (λ j. ltb j m) (from i n) ≡ true
unfolding every from
from_below zero i m h = refl
from_below (suc n) i m h = both (lt-ltb i m (omega arith)) (from_below n (suc i) m (omega arith))

pub every_below : (p : ℕ → Bool) (n : ℕ) → ((i : ℕ) → i < n → p i ≡ true) → every p (from 0 n) ≡ true
every_below p n h = every_imp (λ j. ltb j n) p (λ j x. h j (ltb-true j n x)) (from 0 n) (from_below n 0 n (omega arith))

every_in : (p : ℕ → Bool) (n i j : ℕ) → every p (from i n) ≡ true → j < n → p (i + j) ≡ true
unfolding every from
every_in p zero i j e l = absurd (omega arith)
every_in p (suc n) i zero e l = ap p (omega arith) ∙ and_left _ _ e
every_in p (suc n) i (suc j) e l = ap p (omega arith) ∙ every_in p n (suc i) j (and_right (p i) _ e) (omega arith)

pub below_every : (p : ℕ → Bool) (n : ℕ) → every p (from 0 n) ≡ true → (i : ℕ) → i < n → p i ≡ true
below_every p n e i l = ap p (omega arith) ∙ every_in p n 0 i e l

from_at : (f : ℕ → Bool) (n i j : ℕ) → j < n → get_or (map f (from i n)) j false ≡ f (i + j)
unfolding from
from_at f zero i j l = absurd (omega arith)
from_at f (suc n) i zero l = ap f (omega arith)
from_at f (suc n) i (suc j) l = from_at f n (suc i) j (omega arith) ∙ ap f (omega arith)

pub get_or_from : (f : ℕ → Bool) (n j : ℕ) → j < n → get_or (map f (from 0 n)) j false ≡ f j
get_or_from f n j l = from_at f n 0 j l ∙ ap f (omega arith)

-- ---- marks

pub set_self : {A : Type 0} (l : List A) (i : ℕ) (d : A) → set l i (get_or l i d) ≡ l
set_self [] i d = refl
set_self (x ∷ l) zero d = refl
set_self (x ∷ l) (suc i) d = ap (x ∷◌) (set_self l i d)

-- ---- counting

pub count_map : {A B : Type 0} (f : A → B) (q : B → Bool) (r : A → Bool) → ((a : A) → q (f a) ≡ r a) → (l : List A) → count q (map f l) ≡ count r l
unfolding count
count_map f q r same [] = refl
count_map f q r same (a ∷ l) = rw (same a, count_map f q r same l)
