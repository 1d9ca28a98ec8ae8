-- "all keys exist and tags are within limits": tags that the clocks answer, and sets of keys that exist. Assumes nothing.
use Rattle.std.specs.Prelude.{ℕ, ◌+◌, ◌<◌, Bool, not, ◌&&◌, ◌||◌, ◌≡◌, refl, ℤ, pos, negsuc}
use Rattle.std.proofs.Math.Bool.{true}
use Rattle.std.proofs.Common.{ap, ◌∙◌, sym, arith, lt-ltb, ltb-true}
use mathlib.Core.List.{List, [], ◌∷◌}
use Rattle.std.proofs.Math.Decide.{ℕ_discrete}
use Rattle.std.proofs.Math.Dec.{ltb}
use Rattle.lists.specs.Lists.{every, foldl}
use Rattle.lists.specs.Walk.{done}
use Rattle.refusals.specs.declared.Refusal.TheVariants.{ArgumentTag, MappedTag}
use Rattle.tags.specs.Tags.{Tag, Clock, at, zero_tag, fresh_clock, max_microstep, within, within_clock, same_tag, delayed, shifted, settled_tag, to_local, image_of}
use Rattle.tags.specs.Before.{old_held_back, old_to_global, as_before}
use Rattle.tags.proofs.Laws.{within_offset, within_both}
use Rattle.key_set.specs.Sets.{has, insert_key, no_keys, word_count}
use Rattle.key_set.proofs.Laws.{has_insert_other, has_empty}
use Rattle.lists.specs.Every.{by_test, no_way, both, or_left, or_right, done_is, not_done, need_is, either_is, every_head, every_tail}

-- ---- tags

settled_within : (o : ℤ) (m : ℕ) (g : Tag) → settled_tag o m ≡ done g → within g ≡ true
settled_within (pos o) m g e = let x = need_is (within (at o m)) MappedTag e in rw (done_is x.1) at x.0
settled_within (negsuc o) m g e = not_done e

pub delayed_within : (t g : Tag) → delayed t ≡ done g → within g ≡ true
unfolding delayed
delayed_within t g e =
    let x = need_is (within t) ArgumentTag e in
    let y = need_is (ltb t.microstep max_microstep) MappedTag x.1 in
    let w = within_both (at t.offset (t.microstep + 1)) (within_offset t x.0) (omega (arith, ltb-true t.microstep max_microstep y.0)) in
    rw (done_is y.1) at w

pub local_within : (k : Clock) (g x : Tag) → within g ≡ true → to_local k g ≡ done x → within x ≡ true
unfolding to_local
local_within k g x h e =
    let p = shifted k.L k.G g in
    either_is (same_tag k.G k.L) e (λ b q. rw (done_is q) at h) (λ b q. settled_within p.offset p.microstep x q)

pub global_within : (k : Clock) (x g : Tag) → within x ≡ true → image_of k x ≡ done g → within g ≡ true
unfolding old_to_global
global_within k x g h e =
    let p = shifted k.G k.L x in
    either_is (same_tag k.G k.L && k.allowed) (sym (as_before k x) ∙ e) (λ b q. rw (done_is q) at h) λ b q.
    either_is (old_held_back k p.offset p.microstep) q (λ c r. delayed_within k.G g r) (λ c r. settled_within p.offset p.microstep g r)

pub zero_within : within zero_tag ≡ true
unfolding within
zero_within = refl

pub clock_within : (k : Clock) → within k.G ≡ true → within k.L ≡ true → within k.S ≡ true → within_clock k ≡ true
unfolding within_clock
clock_within k g l s = both g (both l s)

pub fresh_within : (b : Bool) → within_clock (fresh_clock b) ≡ true
fresh_within b = clock_within (fresh_clock b) zero_within zero_within zero_within

-- ---- keys

module _ (n : ℕ) where
  inserted : (ks ws : List ℕ) (j : ℕ) → (has ws j ≡ true → j < n) → every (λ k. ltb k n) ks ≡ true → has (foldl insert_key ws ks) j ≡ true → j < n
  unfolding foldl
  inserted [] ws j h e x = h x
  inserted (k ∷ ks) ws j h e x = inserted ks (insert_key ws k) j (λ y. go y (ℕ_discrete j k)) (every_tail (λ k. ltb k n) k ks e) x
    where
      go : has (insert_key ws k) j ≡ true → Dec (j ≡ k) → j < n
      go y (yes q) = rw q (ltb-true k n (every_head (λ k. ltb k n) k ks e))
      go y (no q) = h (sym (has_insert_other ws k j q) ∙ y)

  -- a set of keys that exist has no other
  pub set_keys : (ks : List ℕ) → every (λ k. ltb k n) ks ≡ true → (j : ℕ) → (not (has (foldl insert_key (no_keys word_count) ks) j) || ltb j n) ≡ true
  set_keys ks e j =
      let ws = foldl insert_key (no_keys word_count) ks in
      by_test (has ws j) (λ x. or_right (not (has ws j)) (lt-ltb j n (inserted ks (no_keys word_count) j (λ y. no_way (sym (has_empty word_count j) ∙ y)) e x)))
      (λ x. or_left (ltb j n) (ap not x))
