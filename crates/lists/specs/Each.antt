-- Keeping and losing under a map, a fact of each one, and the last of a list. Assumes nothing.
use Rattle.std.specs.Prelude.{ℕ, zero, suc, ◌<◌, Bool, true, false, cond, ◌≡◌, length, get_or}
use Rattle.std.proofs.Math.Path.{refl}
use mathlib.Core.List.{List, [], ◌∷◌, ◌++◌, map}
use Rattle.std.proofs.Common.{arith}
use Rattle.lists.specs.Lists.{keep, lose, any, foldl}

module _ {A B : Type 0} (f : A → B) where
  pub map_cond : (t : Bool) (a b : List A) → map f (cond t a b) ≡ cond t (map f a) (map f b)
  map_cond true a b = refl
  map_cond false a b = refl

  pub map_lose : (q : B → Bool) (l : List A) → map f (lose (λ a. q (f a)) l) ≡ lose q (map f l)
  unfolding lose
  map_lose q [] = refl
  map_lose q (a ∷ l) = rw (map_cond (q (f a)), map_lose q l)

-- ---- a fact of each one

abbrev pub Each : {A : Type 0} → (A → Type 0) → List A → Type 0
Each P [] = Unit {0}
Each P (a ∷ l) = P a × Each P l

module _ {A : Type 0} where
  pub each_map : {B : Type 0} (P : A → Type 0) (Q : B → Type 0) (f : A → B) → ((a : A) → P a → Q (f a)) → (l : List A) → Each P l → Each Q (map f l)
  each_map P Q f h [] e = tt
  each_map P Q f h (a ∷ l) e = (h a e.0, each_map P Q f h l e.1)

  pub each_append : (P : A → Type 0) (l m : List A) → Each P l → Each P m → Each P (l ++ m)
  each_append P [] m e f = f
  each_append P (a ∷ l) m e f = (e.0, each_append P l m e.1 f)

  pub each_all : (P : A → Type 0) → ((a : A) → P a) → (l : List A) → Each P l
  each_all P h [] = tt
  each_all P h (a ∷ l) = (h a, each_all P h l)

  pub each_imp : (P Q : A → Type 0) → ((a : A) → P a → Q a) → (l : List A) → Each P l → Each Q l
  each_imp P Q h [] e = tt
  each_imp P Q h (a ∷ l) e = (h a e.0, each_imp P Q h l e.1)

  pub each_two : (P Q R : A → Type 0) → ((a : A) → P a → Q a → R a) → (l : List A) → Each P l → Each Q l → Each R l
  each_two P Q R h [] d e = tt
  each_two P Q R h (a ∷ l) d e = (h a d.0 e.0, each_two P Q R h l d.1 e.1)

  pub each_at : (P : A → Type 0) (l : List A) (d : A) (k : ℕ) → k < length l → Each P l → P (get_or l k d)
  each_at P [] d k h e = absurd (omega arith)
  each_at P (a ∷ l) d zero h e = e.0
  each_at P (a ∷ l) d (suc k) h e = each_at P l d k (omega arith) e.1

  -- the same test for each one keeps the same
  pub keep_same : (p q : A → Bool) (l : List A) → Each (λ a. p a ≡ q a) l → keep p l ≡ keep q l
  unfolding keep
  keep_same p q [] e = refl
  keep_same p q (a ∷ l) e = rw (e.0, keep_same p q l e.1)

-- ---- asking and folding under a map

pub any_map : {A B : Type 0} (f : A → B) (p : B → Bool) (l : List A) → any p (map f l) ≡ any (λ a. p (f a)) l
unfolding any
any_map f p [] = refl
any_map f p (a ∷ l) = rw (any_map f p l)

pub foldl_map : {A B C : Type 0} (f : A → B) (g : C → B → C) (l : List A) (c : C) → foldl g c (map f l) ≡ foldl (λ c a. g c (f a)) c l
unfolding foldl
foldl_map f g [] c = refl
foldl_map f g (a ∷ l) c = foldl_map f g l (g c (f a))
