-- The library's `all` and `count`, and the definitions' tests of the same things. Assumes nothing.
use Rattle.std.specs.Prelude.{ℕ, zero, suc, ◌+◌, ◌≤◌, ◌<◌, ◌≡◌, Bool, true, false, ◌&&◌, List, [], ◌∷◌, length, take, drop, get_or, refl, MatchBool}
use Rattle.std.specs.List.{AllWithin, HoldsAt, range_with_len}
use Rattle.std.proofs.Common.{ap, sym, ◌∙◌, arith, add-one}
use Rattle.std.proofs.Math.Seq.{drop-cons, take-suc}
use mir.Val.{bool_byte}
use Rattle.lists.specs.Lists.{every, count, from, every_at, count_append}
use Rattle.lists.specs.Every.{by_test, no_way, both}

-- the definitions count the same numbers
pub numbers : (a n : ℕ) → range_with_len a n ≡ from a n
unfolding from
numbers a zero = refl
numbers a (suc n) = rw (numbers (a + 1) n, add-one)

pub byte_small : (b : Bool) → bool_byte b ≤ 1
byte_small true = omega arith
byte_small false = omega arith

module _ {A : Type 0} (p : A → Bool) where
  every_each : (l : List A) → ((k : ℕ) (d : A) → k < length l → p (get_or l k d) ≡ true) → every p l ≡ true
  unfolding every
  every_each [] f = refl
  every_each (a ∷ l) f = both (f 0 a (omega arith)) (every_each l (λ k d h. f (suc k) d (omega arith)))

  every_other : (l : List A) → (k : ℕ) → k < length l → ((d : A) → p (get_or l k d) ≡ false) → every p l ≡ false
  every_other [] k h f = absurd (omega arith)
  every_other (a ∷ l) k h f = by_test (every p (a ∷ l)) (λ t. no_way (sym (f a) ∙ every_at p (a ∷ l) k a h t)) (λ e. e)

  pub all_of :
      (l : List A) (r : Bool) → MatchBool r (AllWithin (λ a. p a ≡ true) l 0 (length l)) ((k : ℕ) × (k < length l) × HoldsAt (λ a. p a ≡ false) l k) → r ≡ every p l
  all_of l true m = sym (every_each l (λ k d h. m k d (omega arith) h))
  all_of l false m = sym (every_other l m.0 m.1 m.2)

-- the first n of a list, by their places
module _ {A : Type 0} (p : A → Bool) (l : List A) (d : A) where
  every_part : (n i : ℕ) → i + n ≤ length l → every (λ j. p (get_or l j d)) (range_with_len i n) ≡ every p (take n (drop i l))
  unfolding every
  every_part zero i h = refl
  every_part (suc n) i h = rw (drop-cons l i d (omega arith)) (ap (λ b. p (get_or l i d) && b) (every_part n (i + 1) (omega arith) ∙ rw add-one))

  pub every_front : (n : ℕ) → n ≤ length l → every (λ j. p (get_or l j d)) (range_with_len 0 n) ≡ every p (take n l)
  every_front n h = every_part n 0 (omega arith)

  -- one more is counted
  pub count_more : (i : ℕ) {b : Bool} → i < length l → b ≡ p (get_or l i d) → count p (take i l) + bool_byte b ≡ count p (take (i + 1) l)
  unfolding count
  count_more i {b} h e =
      rw (add-one, take-suc l i d h, count_append p (take i l) (get_or l i d ∷ [])) (ap (λ k. count p (take i l) + k) (go b e))
    where
      go : (b : Bool) → b ≡ p (get_or l i d) → bool_byte b ≡ count p (get_or l i d ∷ [])
      go true e = rw (← e)
      go false e = rw (← e)
