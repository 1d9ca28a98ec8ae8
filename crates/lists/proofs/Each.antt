-- Keeping under a map, and counting what is kept. Assumes nothing.
use Rattle.std.specs.Prelude.{suc, Bool, true, false, cond, ◌&&◌, ◌≡◌}
use Rattle.std.proofs.Math.Path.{refl}
use mathlib.Core.List.{List, [], ◌∷◌, map}
use Rattle.lists.specs.Lists.{keep, count}
use Rattle.lists.specs.Each.{map_cond}

module _ {A B : Type 0} (f : A → B) where
  pub map_keep : (q : B → Bool) (l : List A) → map f (keep (λ a. q (f a)) l) ≡ keep q (map f l)
  unfolding keep
  map_keep q [] = refl
  map_keep q (a ∷ l) = rw (map_cond f (q (f a)), map_keep q l)

pub count_keep : {A B : Type 0} (f : A → B) (p : B → Bool) (q : A → Bool) (l : List A) → count p (map f (keep q l)) ≡ count (λ a. q a && p (f a)) l
unfolding count keep
count_keep f p q [] = refl
count_keep f p q (a ∷ l) = go (q a) (count_keep f p q l)
  where
    go : (b : Bool) → count p (map f (keep q l)) ≡ count (λ a. q a && p (f a)) l →
        count p (map f (cond b (a ∷ keep q l) (keep q l))) ≡ cond (b && p (f a)) (suc (count (λ a. q a && p (f a)) l)) (count (λ a. q a && p (f a)) l)
    go true r = rw r
    go false r = r
