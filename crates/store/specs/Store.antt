-- Document 01, "Values and level walks", first part: values under action and tag, buckets under action and offset. Assumes nothing.
use Rattle.std.specs.Prelude.{ℕ, ◌+◌, Bool, cond, not, ◌&&◌, ◌||◌, List, [], ◌∷◌, ltb, leb, eqb, length}
use Rattle.lists.specs.Lists.{lose, any, every, distinct, upsert}
use Rattle.lists.specs.Walk.{Result, done, refused}
use Rattle.refusals.specs.declared.Refusal.{Refusal}
use Rattle.refusals.specs.declared.Refusal.TheVariants as R
use Rattle.store_words.specs.Entries.{Value, Bucket}
use Rattle.tags.specs.Tags.{Tag, at, max_microstep, within, same_tag, earlier}

pub record Store : Type 0 where
  pub values : List Value
  pub buckets : List Bucket

abbrev pub empty_store : Store
empty_store = record { values = []; buckets = [] }

unfoldable pub is_value : ℕ → Tag → Value → Bool
is_value a t v = eqb v.action a && same_tag v.tag t

unfoldable pub is_bucket : ℕ → ℕ → Bucket → Bool
is_bucket a o b = eqb b.action a && eqb b.offset o

-- "plus one, held at the limit"
unfoldable pub following : ℕ → ℕ
following m = cond (ltb m max_microstep) (m + 1) max_microstep

unfoldable pub larger : ℕ → ℕ → ℕ
larger m n = cond (ltb m n) n m

-- ---- push

-- "pushing again overwrites"
abbrev pub overwritten : ℕ → Value → Value
overwritten n v = record { action = v.action; tag = v.tag; value = n }

-- "the largest pushed plus one"
abbrev pub raised : ℕ → Bucket → Bucket
raised n b = record { action = b.action; offset = b.offset; next = larger b.next n }

-- a new one is needed, and as many are held as may be
unfoldable pub lacks : {A : Type 0} → ℕ → (A → Bool) → List A → Bool
lacks limit p l = not (any p l) && leb limit (length l)

-- where no more than `limit` values, and no more buckets, may be held
unfoldable pub pushed : ℕ → Store → ℕ → Tag → ℕ → Result Refusal Store
pushed limit s a t v =
    cond (lacks limit (is_value a t) s.values || lacks limit (is_bucket a t.offset) s.buckets) (refused R.Held)
    (let n = following t.microstep in
    done
    (record {
      values = upsert (is_value a t) (overwritten v) (record { action = a; tag = t; value = v }) s.values;
      buckets = upsert (is_bucket a t.offset) (raised n) (record { action = a; offset = t.offset; next = n }) s.buckets;
    }))

-- ---- "Asked for an offset and a least microstep, the answer is the larger, or the least if no bucket; none if that is 4,294,967,295"

pub data Found : Type 0 where
  nothing : Found
  found : ℕ → Found

unfoldable pub next_in : ℕ → ℕ → List Bucket → Found
next_in a o [] = nothing
next_in a o (b ∷ l) = cond (is_bucket a o b) (found b.next) (next_in a o l)

abbrev pub unless_last : ℕ → Found
unless_last m = cond (eqb m max_microstep) nothing (found m)

abbrev pub at_least : Found → ℕ → Found
at_least nothing m = unless_last m
at_least (found n) m = unless_last (larger n m)

unfoldable pub next_microstep : Store → ℕ → ℕ → ℕ → Found
next_microstep s a o m = at_least (next_in a o s.buckets) m

-- ---- "Take answers "nothing" for a value not held and leaves the bucket"

unfoldable pub value_in : ℕ → Tag → List Value → Found
value_in a t [] = nothing
value_in a t (v ∷ l) = cond (is_value a t v) (found v.value) (value_in a t l)

unfoldable pub taken : Store → ℕ → Tag → Store
taken s a t = record { values = lose (is_value a t) s.values; buckets = s.buckets }

-- ---- "Clearing before a tag removes that action's earlier offsets, its values at that offset with lower microstep, and the bucket there if no value is left"

unfoldable pub is_before : ℕ → Tag → Value → Bool
is_before a t v = eqb v.action a && earlier v.tag t

unfoldable pub is_there : ℕ → ℕ → Value → Bool
is_there a o v = eqb v.action a && eqb v.tag.offset o

-- a bucket at an earlier offset, or at that one where no value is left
unfoldable pub is_spent : ℕ → Tag → Bool → Bucket → Bool
is_spent a t left b = eqb b.action a && (ltb b.offset t.offset || (eqb b.offset t.offset && not left))

unfoldable pub cleared_before : Store → ℕ → Tag → Store
cleared_before s a t =
    let values = lose (is_before a t) s.values in
    record { values = values; buckets = lose (is_spent a t (any (is_there a t.offset) values)) s.buckets }

unfoldable pub of_action : ℕ → Value → Bool
of_action a v = eqb v.action a

unfoldable pub bucket_of : ℕ → Bucket → Bool
bucket_of a b = eqb b.action a

unfoldable pub cleared : Store → ℕ → Store
cleared s a = record { values = lose (of_action a) s.values; buckets = lose (bucket_of a) s.buckets }

-- ---- "A move between equal tags does nothing, and so does a move of a value not held": else a take and then a push

abbrev pub push_found : ℕ → Store → Store → ℕ → Tag → Found → Result Refusal Store
push_found limit s t a new nothing = done s
push_found limit s t a new (found v) = pushed limit t a new v

unfoldable pub moved : ℕ → Store → ℕ → Tag → Tag → Result Refusal Store
moved limit s a old new = cond (same_tag old new) (done s) (push_found limit s (taken s a old) a new (value_in a old s.values))

-- ---- the state rules that speak of values and buckets

-- "each value has its bucket, whose next microstep is at least the value's plus one (held at the limit)"
unfoldable pub covered_by : ℕ → Tag → Bucket → Bool
covered_by a t b = is_bucket a t.offset b && leb (following t.microstep) b.next

unfoldable pub has_bucket : List Bucket → Value → Bool
has_bucket bs v = any (covered_by v.action v.tag) bs

unfoldable pub value_rules : ℕ → Value → Bool
value_rules actions v = ltb v.action actions && within v.tag

unfoldable pub bucket_rules : ℕ → Bucket → Bool
bucket_rules actions b = ltb b.action actions && within (at b.offset b.next)

unfoldable pub same_value : Value → Value → Bool
same_value v w = is_value w.action w.tag v

unfoldable pub same_bucket : Bucket → Bucket → Bool
same_bucket b c = is_bucket c.action c.offset b

unfoldable pub store_rules : ℕ → ℕ → Store → Bool
store_rules limit actions s =
    leb (length s.values) limit && (leb (length s.buckets) limit &&
    (every (value_rules actions) s.values && (every (bucket_rules actions) s.buckets &&
    (distinct same_value s.values && (distinct same_bucket s.buckets &&
    every (has_bucket s.buckets) s.values)))))
