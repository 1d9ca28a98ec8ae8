-- What a list's tests become where one element is put or some are lost. Assumes nothing.
use Rattle.std.specs.Prelude.{Bool, ◌&&◌, ◌||◌, ◌≡◌, leb}
use Rattle.std.proofs.Math.Bool.{true, false, cond, not}
use Rattle.std.proofs.Math.Path.{refl, ap}
use Rattle.std.proofs.Common.{◌∙◌, sym, arith, leb-false}
use mathlib.Core.List.{List, [], ◌∷◌}
use Prim.Native.Nat.{ℕ, suc, ◌≤◌}
use Rattle.std.proofs.Math.ListN.{length}
use Rattle.lists.specs.Tests.{and_left, and_right, and_both}
use Rattle.lists.specs.Lists.{lose, any, every, distinct, upsert}

pub no_way : {P : Type 0} → ◌≡◌ {A = Bool} false true → P
no_way e = absurd (let y : ◌≡◌ {A = ℕ} 0 1 = cc in omega arith)

pub or_none : (a b : Bool) → a ≡ false → b ≡ false → (a || b) ≡ false
or_none true b e f = e
or_none false b e f = f

pub or_no_left : (a b : Bool) → (a || b) ≡ false → a ≡ false
or_no_left true b e = e
or_no_left false b e = refl

pub or_no_right : (a b : Bool) → (a || b) ≡ false → b ≡ false
or_no_right true b e = no_way (sym e)
or_no_right false b e = e

pub not_no : (a : Bool) → not a ≡ true → a ≡ false
not_no true e = sym e
not_no false e = refl

pub or_left : (a b : Bool) → a ≡ true → (a || b) ≡ true
or_left true b e = refl
or_left false b e = no_way e

pub or_right : (a b : Bool) → b ≡ true → (a || b) ≡ true
or_right true b e = refl
or_right false b e = e

pub by_test : {P : Type 0} (b : Bool) → (b ≡ true → P) → (b ≡ false → P) → P
by_test true f g = f refl
by_test false f g = g refl

pub either_is : {A P : Type 0} (b : Bool) {x y z : A} → cond b x y ≡ z → (b ≡ true → x ≡ z → P) → (b ≡ false → y ≡ z → P) → P
either_is true e f g = f refl e
either_is false e f g = g refl e

-- ---- upsert

module _ {A : Type 0} (p : A → Bool) (f : A → A) (x : A) where
  any_upsert_same : (q : A → Bool) → q x ≡ false → ((b : A) → q (f b) ≡ q b) → (l : List A) → any q (upsert p f x l) ≡ any q l
  unfolding any upsert
  any_upsert_same q h k [] = or_none (q x) false h refl
  any_upsert_same q h k (a ∷ l) = go (p a) (any_upsert_same q h k l)
    where
      go : (b : Bool) → any q (upsert p f x l) ≡ any q l → any q (cond b (f a ∷ l) (a ∷ upsert p f x l)) ≡ (q a || any q l)
      go true r = rw (k a)
      go false r = rw r

  pub any_upsert_more : (q : A → Bool) → ((b : A) → q b ≡ true → q (f b) ≡ true) → (l : List A) → any q l ≡ true → any q (upsert p f x l) ≡ true
  unfolding any upsert
  any_upsert_more q k [] e = no_way e
  any_upsert_more q k (a ∷ l) e = go (p a) (q a) refl e (any_upsert_more q k l)
    where
      go : (b c : Bool) → q a ≡ c → (c || any q l) ≡ true → (any q l ≡ true → any q (upsert p f x l) ≡ true) → any q (cond b (f a ∷ l) (a ∷ upsert p f x l)) ≡ true
      go true true y e r = or_left (q (f a)) (any q l) (k a y)
      go true false y e r = or_right (q (f a)) (any q l) e
      go false true y e r = or_left (q a) (any q (upsert p f x l)) y
      go false false y e r = or_right (q a) (any q (upsert p f x l)) (r e)

  pub any_upsert_new : (q : A → Bool) → q x ≡ true → ((b : A) → p b ≡ true → q (f b) ≡ true) → (l : List A) → any q (upsert p f x l) ≡ true
  unfolding any upsert
  any_upsert_new q h k [] = or_left (q x) false h
  any_upsert_new q h k (a ∷ l) = go (p a) refl (any_upsert_new q h k l)
    where
      go : (b : Bool) → p a ≡ b → any q (upsert p f x l) ≡ true → any q (cond b (f a ∷ l) (a ∷ upsert p f x l)) ≡ true
      go true y r = or_left (q (f a)) (any q l) (k a y)
      go false y r = or_right (q a) (any q (upsert p f x l)) r

  pub every_upsert : (q : A → Bool) → q x ≡ true → ((b : A) → q b ≡ true → q (f b) ≡ true) → (l : List A) → every q l ≡ true → every q (upsert p f x l) ≡ true
  unfolding every upsert
  every_upsert q h k [] e = and_both (q x) true h refl
  every_upsert q h k (a ∷ l) e = go (p a) (every_upsert q h k l (and_right (q a) (every q l) e))
    where
      go : (b : Bool) → every q (upsert p f x l) ≡ true → every q (cond b (f a ∷ l) (a ∷ upsert p f x l)) ≡ true
      go true r = and_both (q (f a)) (every q l) (k a (and_left (q a) (every q l) e)) (and_right (q a) (every q l) e)
      go false r = and_both (q a) (every q (upsert p f x l)) (and_left (q a) (every q l) e) r

  pub distinct_upsert : (same : A → A → Bool) → ((a b : A) → same a (f b) ≡ same a b) → ((a b : A) → same (f a) b ≡ same a b) → ((a : A) → same a x ≡ p a)
      → (l : List A) → distinct same l ≡ true → distinct same (upsert p f x l) ≡ true
  unfolding distinct upsert any
  distinct_upsert same m n o [] e = refl
  distinct_upsert same m n o (a ∷ l) e = go (p a) refl (distinct_upsert same m n o l (and_right (not (any (same a) l)) (distinct same l) e))
    where
      any_as : (l : List A) → any (same (f a)) l ≡ any (same a) l
      any_as [] = refl
      any_as (b ∷ l) = rw (n a b, any_as l)

      go : (b : Bool) → p a ≡ b → distinct same (upsert p f x l) ≡ true → distinct same (cond b (f a ∷ l) (a ∷ upsert p f x l)) ≡ true
      go true y r = rw (any_as l) e
      go false y r =
          and_both (not (any (same a) (upsert p f x l))) (distinct same (upsert p f x l))
          (rw (any_upsert_same (same a) (o a ∙ y) (m a) l) (and_left (not (any (same a) l)) (distinct same l) e)) r

  length_upsert : (l : List A) → length (upsert p f x l) ≡ cond (any p l) (length l) (suc (length l))
  unfolding upsert any
  length_upsert [] = refl
  length_upsert (a ∷ l) = go (p a) (length_upsert l)
    where
      go : (b : Bool) → length (upsert p f x l) ≡ cond (any p l) (length l) (suc (length l)) →
          length (cond b (f a ∷ l) (a ∷ upsert p f x l)) ≡ cond (b || any p l) (suc (length l)) (suc (suc (length l)))
      go true r = refl
      go false r = ap suc r ∙ out (any p l)
        where
          out : (c : Bool) → suc (cond c (length l) (suc (length l))) ≡ cond c (suc (length l)) (suc (suc (length l)))
          out true = refl
          out false = refl

  pub room_upsert : (m : ℕ) (l : List A) → length l ≤ m → (not (any p l) && leb m (length l)) ≡ false → length (upsert p f x l) ≤ m
  room_upsert m l h e = rw (length_upsert l) (go (any p l) e)
    where
      go : (b : Bool) → (not b && leb m (length l)) ≡ false → cond b (length l) (suc (length l)) ≤ m
      go true e = h
      go false e = omega (arith, leb-false m (length l) e)

module _ {A : Type 0} (r : A → Bool) where
  pub any_lose : (q : A → Bool) (l : List A) → any q l ≡ false → any q (lose r l) ≡ false
  unfolding any lose
  any_lose q [] e = refl
  any_lose q (a ∷ l) e = go (r a) (any_lose q l (or_no_right (q a) (any q l) e))
    where
      go : (b : Bool) → any q (lose r l) ≡ false → any q (cond b (lose r l) (a ∷ lose r l)) ≡ false
      go true h = h
      go false h = or_none (q a) (any q (lose r l)) (or_no_left (q a) (any q l) e) h

  pub any_lose_not : (q : A → Bool) → ((b : A) → q b ≡ true → r b ≡ false) → (l : List A) → any q l ≡ true → any q (lose r l) ≡ true
  unfolding any lose
  any_lose_not q k [] e = no_way e
  any_lose_not q k (a ∷ l) e = go (r a) (q a) refl refl e (any_lose_not q k l)
    where
      go : (b c : Bool) → r a ≡ b → q a ≡ c → (c || any q l) ≡ true → (any q l ≡ true → any q (lose r l) ≡ true) → any q (cond b (lose r l) (a ∷ lose r l)) ≡ true
      go true true x y e h = no_way (sym (k a y) ∙ x)
      go true false x y e h = h e
      go false true x y e h = or_left (q a) (any q (lose r l)) y
      go false false x y e h = or_right (q a) (any q (lose r l)) (h e)

  pub distinct_lose : (same : A → A → Bool) (l : List A) → distinct same l ≡ true → distinct same (lose r l) ≡ true
  unfolding distinct lose
  distinct_lose same [] e = refl
  distinct_lose same (a ∷ l) e = go (r a) (distinct_lose same l (and_right (not (any (same a) l)) (distinct same l) e))
    where
      go : (b : Bool) → distinct same (lose r l) ≡ true → distinct same (cond b (lose r l) (a ∷ lose r l)) ≡ true
      go true h = h
      go false h =
          and_both (not (any (same a) (lose r l))) (distinct same (lose r l))
          (ap not (any_lose (same a) l (not_no (any (same a) l) (and_left (not (any (same a) l)) (distinct same l) e)))) h

-- ---- every one

pub every_imp : {A : Type 0} (p q : A → Bool) → ((a : A) → p a ≡ true → q a ≡ true) → (l : List A) → every p l ≡ true → every q l ≡ true
unfolding every
every_imp p q h [] e = refl
every_imp p q h (a ∷ l) e = and_both (q a) (every q l) (h a (and_left (p a) (every p l) e)) (every_imp p q h l (and_right (p a) (every p l) e))

pub every_two : {A : Type 0} (p q r : A → Bool) → ((a : A) → p a ≡ true → q a ≡ true → r a ≡ true) → (l : List A) → every p l ≡ true → every q l ≡ true → every r l ≡ true
unfolding every
every_two p q r h [] e f = refl
every_two p q r h (a ∷ l) e f =
    and_both (r a) (every r l) (h a (and_left (p a) (every p l) e) (and_left (q a) (every q l) f))
    (every_two p q r h l (and_right (p a) (every p l) e) (and_right (q a) (every q l) f))

pub every_lose : {A : Type 0} (p q : A → Bool) (l : List A) → every p l ≡ true → every p (lose q l) ≡ true
unfolding every lose
every_lose p q [] e = refl
every_lose p q (a ∷ l) e = go (q a) (every_lose p q l (and_right (p a) (every p l) e))
  where
    go : (b : Bool) → every p (lose q l) ≡ true → every p (cond b (lose q l) (a ∷ lose q l)) ≡ true
    go true rest = rest
    go false rest = and_both (p a) (every p (lose q l)) (and_left (p a) (every p l) e) rest

-- what is lost is not there
pub lost_none : {A : Type 0} (q : A → Bool) (l : List A) → every (λ a. not (q a)) (lose q l) ≡ true
unfolding every lose
lost_none q [] = refl
lost_none q (a ∷ l) = go (q a) refl (lost_none q l)
  where
    go : (b : Bool) → q a ≡ b → every (λ a. not (q a)) (lose q l) ≡ true → every (λ a. not (q a)) (cond b (lose q l) (a ∷ lose q l)) ≡ true
    go true e h = h
    go false e h = and_both (not (q a)) (every (λ a. not (q a)) (lose q l)) (rw e) h

-- each that passes makes that some do
pub any_each : {A : Type 0} (q : A → Bool) (l : List A) (b : Bool) → (any q l ≡ true → b ≡ true) → every (λ v. not (q v) || b) l ≡ true
unfolding any every
any_each q [] b h = refl
any_each q (a ∷ l) b h =
    and_both (not (q a) || b) _ (by_test (q a) (λ e. or_right (not (q a)) b (h (or_left (q a) (any q l) e))) (λ e. or_left (not (q a)) b (ap not e)))
    (any_each q l b (λ x. h (or_right (q a) (any q l) x)))
