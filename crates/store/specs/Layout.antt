-- How things of one kind lie in rows of words: what values and buckets share. Assumes nothing.
use Rattle.std.specs.Prelude.{◌≡◌, ℕ, List, length}
use Rattle.lists.specs.Held.{things_of, Whole, Held}
use Rattle.store_words.specs.Entries.{Value, Bucket, room_for_entries, blank_value, blank_bucket}
use Rattle.store_words.specs.Words.{value_words, decode_value, encode_value, long_value, bucket_words, decode_bucket, encode_bucket, long_bucket}

pub record Layout (A : Type 0) : Type 0 where
  pub words : ℕ
  pub decode : List ℕ → A
  pub encode : A → List ℕ
  pub long : (a : A) → length (encode a) ≡ words
  pub blank : A

-- what an array holds, and what its writers ask and promise
module _ {A : Type 0} (y : Layout A) where
  abbrev pub things_in : List ℕ → List A
  things_in = things_of y.decode y.encode y.words room_for_entries y.long

  abbrev pub WholeIn : List ℕ → Type 0
  WholeIn = Whole y.decode y.encode y.words room_for_entries y.long

  abbrev pub HeldIn : List ℕ → List A → Type 0
  HeldIn = Held y.decode y.encode y.words room_for_entries y.long

abbrev pub value_layout : Layout Value
value_layout = record { words = value_words; decode = decode_value; encode = encode_value; long = long_value; blank = blank_value }

abbrev pub bucket_layout : Layout Bucket
bucket_layout = record { words = bucket_words; decode = decode_bucket; encode = encode_bucket; long = long_bucket; blank = blank_bucket }
