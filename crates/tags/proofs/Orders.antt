-- What `==`, `<` and `<=` answer of tags of one scale, in the definitions' words: the derived tests compare the offsets, then the microsteps.
-- A call's answer goes in as it is, `c.eq.ensures` or `c.lt.ensures`. Assumes nothing.
use Rattle.std.specs.Prelude.{ℕ, ◌≡◌, refl, Bool, true, false, cond, not, ◌&&◌, ◌||◌, ltb, eqb, Some}
use Rattle.std.specs.Ordering.{is_lt, is_le, is_some_and, nat_cmp, partial_ordering_then}
use Rattle.std.proofs.Common.{◌∙◌, arith, Less, Equal, Greater}
use Rattle.std.proofs.lemmas.Bool.Decides.{nat_tests}
use Rattle.tags.specs.Tags.{Tag, same_tag, earlier}

both_lt : (p q r s : Bool) → is_some_and is_lt (partial_ordering_then (Some (cond p Less (cond q Equal Greater))) (Some (cond r Less (cond s Equal Greater)))) ≡ (p || (q && r))
both_lt true q r s = refl
both_lt false true true s = refl
both_lt false true false true = refl
both_lt false true false false = refl
both_lt false false r s = refl

both_le : (a b x y : ℕ) → is_some_and is_le (partial_ordering_then (Some (nat_cmp a b)) (Some (nat_cmp x y))) ≡ not (ltb b a || (eqb b a && ltb y x))
both_le a b x y = grind (arith, nat_tests)

module _ (t u : Tag) {r : Bool} where
  pub told_same : r ≡ (eqb t.offset u.offset && eqb t.microstep u.microstep) → r ≡ same_tag t u
  unfolding same_tag
  told_same e = e

  pub told_earlier : r ≡ is_some_and is_lt (partial_ordering_then (Some (nat_cmp t.offset u.offset)) (Some (nat_cmp t.microstep u.microstep))) → r ≡ earlier t u
  unfolding earlier
  told_earlier e = e ∙ both_lt (ltb t.offset u.offset) (eqb t.offset u.offset) (ltb t.microstep u.microstep) (eqb t.microstep u.microstep)

  pub told_at_most : r ≡ is_some_and is_le (partial_ordering_then (Some (nat_cmp t.offset u.offset)) (Some (nat_cmp t.microstep u.microstep))) → r ≡ not (earlier u t)
  unfolding earlier
  told_at_most e = e ∙ both_le t.offset u.offset t.microstep u.microstep

pub ruleset orders = (told_same, told_earlier, told_at_most)
