-- `table_schedule::is_modal` meets its contract. Assumes nothing.
use Rattle.std.specs.Prelude.{◌≡◌, ℕ, zero, suc, ◌<◌, Bool, true, false, refl, List, [], ◌∷◌, length, MatchBool}
use Rattle.std.specs.List.{AllWithin, HoldsAt, range_with_len}
use Rattle.std.proofs.Common.{sym, ap, ◌∙◌, add-one, arith, rules, tests}
use Rattle.std.proofs.lemmas.Iterator.{cases_from_any, YieldsList-from_range}
use Rattle.lists.specs.Lists.{any, any_at, from}
use Rattle.table_schedule.specs.Schedule.{names_mode, is_modal}
use Rattle.table_schedule.proofs.is_modal.Goals as goal

same_range : (i n : ℕ) → range_with_len i n ≡ from i n
unfolding from
same_range i zero = refl
same_range i (suc n) = rw (add-one, same_range (suc i) n)

module _ (p : ℕ → Bool) where
  none_pass : (l : List ℕ) → AllWithin (λ i. p i ≡ false) l 0 (length l) → any p l ≡ false
  unfolding any
  none_pass [] h = refl
  none_pass (i ∷ l) h = rw (h 0 i (omega arith) (omega arith)) (none_pass l λ k d a b. h (suc k) d (omega arith) (omega arith))

  decided : (l : List ℕ) (r : Bool) → MatchBool r ((k : ℕ) × (k < length l) × HoldsAt (λ i. p i ≡ true) l k) (AllWithin (λ i. p i ≡ false) l 0 (length l)) → r ≡ any p l
  decided l true h = sym (any_at p l h.0 0 h.1 (h.2 0))
  decided l false h = sym (none_pass l h)

pub returns : goal.returns
unfolding is_modal
returns c =
    let p = names_mode c.args.image.now in
    let n = c.count-scopes.result in
    decided p (range_with_len 0 n) c.any.result
    (cases_from_any _ _ _ (λ i. p i ≡ true) (λ i. p i ≡ false) c.any.ensures.ran (YieldsList-from_range 0 n n refl (omega arith))
    (λ x q k. search (rules, tests)) (λ x q k. search (rules, tests))) ∙
    ap (any p) (same_range 0 n) ∙ ap (λ m. any p (from 0 m)) c.count-scopes.ensures
