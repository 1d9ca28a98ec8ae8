-- What a map over a clock's bytes answers. Assumes nothing.
use mathlib.Core.Bool.{Bool, true, false, cond, ◌&&◌}
use mathlib.Core.Path.{◌≡◌, ap, ◌∙◌, sym}
use mathlib.Core.List.{List}
use Prim.Native.Nat.{ℕ, ◌≤◌, ◌<◌}
use lib.ListN.{length}
use borrow.Author.Tests.{eq-eqb, ne_eqb}
use Rattle.lists.specs.Walk.{Result, done, refused}
use Rattle.refusals.specs.Refusals.{number_of}
use Rattle.refusals.specs.declared.Refusal.{Refusal}
use Rattle.refusals.specs.declared.Refusal.TheVariants.{StateRule}
use Rattle.tags.specs.Tags.{Tag, Clock}
use Rattle.day_records.specs.Records.{tag_at, is_bit, is_one}
use Rattle.byte_writer.specs.Written.{Written}
use Rattle.exports.proofs.ToldLaws.{no_room_lem, in_room}
use Rattle.exports.specs.Told.{told, no_room}
use Rattle.exports.specs.Answers.{clock_in, is_clock, mapped, map_by, map_told}

abbrev clock_of : Tag → Tag → Bool → Tag → Clock
clock_of g l a s = record { G = g; L = l; allowed = a; S = s }

module _ (bs : List ℕ) where
  pub clock_long : length bs ≡ 37 → {b : Bool} → b ≡ is_bit bs 24 → b ≡ is_clock bs
  unfolding is_clock
  clock_long h e = e ∙ sym (ap (λ x. x && is_bit bs 24) (eq-eqb (length bs) 37 h))

  pub not_long : (length bs ≡ 37 → ⊥) → false ≡ is_clock bs
  unfolding is_clock
  not_long h = sym (ap (λ x. x && is_bit bs 24) (ne_eqb (length bs) 37 h))

  pub clock_are : {g l s : Tag} {a : Bool} → g ≡ tag_at bs 0 → l ≡ tag_at bs 12 → a ≡ is_one bs 24 → s ≡ tag_at bs 25 → clock_of g l a s ≡ clock_in bs
  clock_are eg el ea es = rw (eg, el, ea, es)

module _ {A : Type 0} (f : Clock → Tag → Result Refusal A) (bs : List ℕ) (t : Tag) {b : Bool} (e : b ≡ is_clock bs) where
  pub no_clock : b ≡ false → refused StateRule ≡ mapped f bs t
  unfolding mapped
  no_clock h = sym (ap (λ x. cond x (f (clock_in bs) t) (refused StateRule)) (sym e ∙ h))

  pub by_clock : b ≡ true → {c : Clock} → c ≡ clock_in bs → {a : Result Refusal A} → a ≡ f c t → a ≡ mapped f bs t
  unfolding mapped
  by_clock h k m = m ∙ (ap (λ x. f x t) k ∙ sym (ap (λ x. cond x (f (clock_in bs) t) (refused StateRule)) (sym e ∙ h)))

module _ {A : Type 0} (bytes : A → List ℕ) (n : ℕ) (tag : List ℕ) where
  pub short_tag : (a : Result Refusal A) → length tag < n → told no_room tag ≡ map_told bytes n a tag
  unfolding map_told
  short_tag a h = no_room_lem n tag _ h

  module _ (room : n ≤ length tag) {a b : Result Refusal A} (e : a ≡ b) where
    pub tag_told : {t : A} → a ≡ done t → {new : List ℕ} {end : ℕ} → Written tag 0 (bytes t) new end → told 0 new ≡ map_told bytes n b tag
    unfolding map_told
    tag_told d w = in_room n tag _ room (ap (told 0) w.all ∙ ap (λ x. map_by bytes x tag) (sym d ∙ e))

    pub refusal_told : {r : Refusal} → a ≡ refused r → {m : ℕ} → m ≡ number_of r → told m tag ≡ map_told bytes n b tag
    unfolding map_told
    refusal_told d k = in_room n tag _ room (ap (λ m. told m tag) k ∙ ap (λ x. map_by bytes x tag) (sym d ∙ e))
