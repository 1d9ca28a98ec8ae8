-- `table::keys_exist` meets its contract: the code and the definition have the same list. Assumes nothing.
use Rattle.std.specs.Prelude.{◌≡◌, ℕ, suc, ◌<◌, Bool, true, false, refl, List, [], ◌∷◌, length, MatchBool}
use Rattle.std.specs.List.{AllWithin, HoldsAt}
use Rattle.std.proofs.Common.{sym, arith, rules, tests}
use Rattle.std.proofs.lemmas.Iterator.{cases_from_all, YieldsList-from_slice}
use Rattle.lists.specs.Lists.{every, every_at}
use Rattle.lists.specs.Tests.{yes_no}
use Rattle.table.specs.declared.KeyField.{KeyField}
use Rattle.table.specs.Rules.{key, key_fields, key_exists, keys_exist}
use Rattle.table.proofs.keys_exist.Goals as goal

module _ (p : KeyField → Bool) where
  all_pass : (l : List KeyField) → AllWithin (λ f. p f ≡ true) l 0 (length l) → every p l ≡ true
  unfolding every
  all_pass [] h = refl
  all_pass (f ∷ l) h = rw (h 0 f (omega arith) (omega arith)) (all_pass l λ k d a b. h (suc k) d (omega arith) (omega arith))

  decided : (l : List KeyField) (r : Bool) → MatchBool r (AllWithin (λ f. p f ≡ true) l 0 (length l)) ((k : ℕ) × (k < length l) × HoldsAt (λ f. p f ≡ false) l k) → r ≡ every p l
  decided l true h = sym (all_pass l h)
  decided l false h = go (every p l) refl
    where
      go : (b : Bool) → every p l ≡ b → false ≡ b
      go true e = absurd (yes_no (every_at p l h.0 (key 0 0 0) h.1 e) (h.2 (key 0 0 0)))
      go false e = refl

pub returns : goal.returns
unfolding keys_exist key_fields
returns c =
    let p = key_exists c.args.image.now c.args.k c.args.i in
    decided p key_fields c.all.result
    (cases_from_all _ _ _ (λ f. p f ≡ true) (λ f. p f ≡ false) c.all.ensures.ran (YieldsList-from_slice key_fields cc)
    (λ x q k. search (rules, tests)) (λ x q k. search (rules, tests)))
