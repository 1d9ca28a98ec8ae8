-- Equal keys have equal slots: what lets few rows be compared with all others. Assumes nothing.
use Rattle.std.specs.Prelude.{◌≡◌, refl, ℕ, Bool, true, false, eqb}
use Rattle.std.proofs.Common.{sym, eqb-true, eq-eqb, ne_eqb}
use Rattle.std.proofs.lemmas.Bool.{eqb-false}
use Rattle.lists.specs.Tests.{and_left, and_right}
use Rattle.tags.specs.Tags.{same_tag}
use Rattle.store_words.specs.Entries.{Value, Bucket, of_value, of_bucket}
use Rattle.store_words.specs.declared.Value as code_value
use Rattle.store_words.specs.declared.Bucket as code_bucket
use Rattle.store.specs.Store.{is_value, is_bucket}
use Rattle.store.specs.Views.{own_value, own_bucket}
use Rattle.store_rules.specs.Rules.{value_slot, bucket_slot}

-- the slot of a thing is that of its key, and one key is as like another as the other is like it
pub record Slots {E T : Type 0} (of : E → T) (own : T → T → Bool) (slot : E → ℕ) : Type 0 where
  pub by : T → ℕ
  pub tells : (e : E) → slot e ≡ by (of e)
  pub fits : (a b : T) → own b a ≡ true → by a ≡ by b
  pub turns : (a b : T) → own b a ≡ own a b

abbrev pub slot_of_value : code_value.Value → ℕ
slot_of_value v = value_slot (of_value v)

abbrev pub slot_of_bucket : code_bucket.Bucket → ℕ
slot_of_bucket b = bucket_slot (of_bucket b)

eqb_sym : (a b : ℕ) → eqb a b ≡ eqb b a
eqb_sym a b = go (eqb a b) refl
  where
    go : (t : Bool) → eqb a b ≡ t → t ≡ eqb b a
    go true e = sym (eq-eqb b a (sym (eqb-true a b e)))
    go false e = sym (ne_eqb b a (λ q. eqb-false a b e (sym q)))

value_turns : (v w : Value) → own_value w v ≡ own_value v w
unfolding is_value same_tag
value_turns v w = rw (eqb_sym v.action w.action, eqb_sym v.tag.offset w.tag.offset, eqb_sym v.tag.microstep w.tag.microstep)

bucket_turns : (b c : Bucket) → own_bucket c b ≡ own_bucket b c
unfolding is_bucket
bucket_turns b c = rw (eqb_sym b.action c.action, eqb_sym b.offset c.offset)

value_fits : (v w : Value) → own_value w v ≡ true → value_slot v ≡ value_slot w
unfolding is_value same_tag
value_fits v w e =
    let t = and_right (eqb v.action w.action) _ e in
    rw (
      eqb-true v.action w.action (and_left _ _ e),
      eqb-true v.tag.offset w.tag.offset (and_left _ _ t),
      eqb-true v.tag.microstep w.tag.microstep (and_right (eqb v.tag.offset w.tag.offset) _ t),
    )

bucket_fits : (b c : Bucket) → own_bucket c b ≡ true → bucket_slot b ≡ bucket_slot c
unfolding is_bucket
bucket_fits b c e = rw (eqb-true b.action c.action (and_left _ _ e), eqb-true b.offset c.offset (and_right (eqb b.action c.action) _ e))

pub value_slots : Slots of_value own_value slot_of_value
value_slots = record { by = value_slot; tells = λ v. refl; fits = value_fits; turns = value_turns }

pub bucket_slots : Slots of_bucket own_bucket slot_of_bucket
bucket_slots = record { by = bucket_slot; tells = λ b. refl; fits = bucket_fits; turns = bucket_turns }
