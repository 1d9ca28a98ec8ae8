-- The keys of a set, by the least from a number on, and a tag's image. Assumes nothing.
use Rattle.std.specs.Prelude.{ℕ, ◌*◌, ◌≤◌, ◌<◌, ◌≡◌, Bool, true, false, not, ◌&&◌, ◌||◌, List, length, ltb, Some, None, Ok, Err, is_some, is_ok}
use Rattle.std.specs.Prelude as code
use Rattle.std.proofs.Common.{ap, sym, arith, ltb-true, ltb-false}
use Rattle.std.proofs.Math.Option.{none, some}
use Rattle.lists.specs.Every.{by_test, no_way, or_left, or_right, every_below, below_every}
use Rattle.refusals.specs.declared.Refusal.{Refusal}
use Rattle.tags.specs.Tags.{MappedAnswer, tag_only}
use Rattle.tags.specs.Views.{mapped_global}
use Rattle.tags.specs.declared.Mapped.{Mapped}
use Rattle.key_set.specs.Sets.{has, word_count, lowest_from}
use Rattle.key_set.specs.Views.{found_of}
use Rattle.key_set.proofs.Laws.{lowest_key, lowest_range, none_from}
use Rattle.machine.specs.Transition.{is_tag}
use Rattle.state_rules.specs.Sound.{keys_below}

-- ---- keys of a set

below_all : (ws : List ℕ) (n : ℕ) → ((k : ℕ) → k < word_count * 64 → n ≤ k → has ws k ≡ false) → keys_below ws n ≡ true
below_all ws n h =
    every_below (λ k. not (has ws k) || ltb k n) (word_count * 64) λ k l.
    by_test (ltb k n) (λ y. or_right (not (has ws k)) y) (λ y. or_left (ltb k n) (ap not (h k l (ltb-false k n y))))

-- the keys from n on are looked for
module _ (ws : List ℕ) (n : ℕ) where
  keys_none : none ≡ lowest_from ws n → true ≡ keys_below ws n
  keys_none s = sym (below_all ws n λ k l m. none_from ws n s k m)

  keys_some : (j : ℕ) → length ws ≡ word_count → some j ≡ lowest_from ws n → false ≡ keys_below ws n
  keys_some j h s =
      let w = lowest_range ws n word_count h s in
      by_test (keys_below ws n)
      (λ t.
      let a : (not (has ws j) || ltb j n) ≡ true = below_every (λ k. not (has ws k) || ltb k n) (word_count * 64) t j w.1 in
      let b : ltb j n ≡ true = simp (lowest_key ws n s).is.passes at a in
      absurd (let c = ltb-true j n b in let d = w.0 in omega arith))
      (λ t. sym t)

  pub keys_told : (f : code.Option ℕ) (r : Bool) → length ws ≡ word_count → is_some f ≡ not r → found_of f ≡ lowest_from ws n → r ≡ keys_below ws n
  keys_told (Some j) false h s e = keys_some j h e
  keys_told (Some j) true h s e = no_way (sym s)
  keys_told None true h s e = keys_none e
  keys_told None false h s e = no_way s

-- ---- a tag's image

pub maps_told : (m : code.Result Mapped Refusal) {a : MappedAnswer} → mapped_global m ≡ a → is_ok m ≡ is_tag (tag_only a)
maps_told (Ok t) h = ap (λ r. is_tag (tag_only r)) h
maps_told (Err n) h = ap (λ r. is_tag (tag_only r)) h
