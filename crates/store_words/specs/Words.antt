-- A value as a row of four words, a bucket as a row of three, and all that an array of words holds. Any words are values. Assumes nothing.
use Rattle.std.specs.Prelude.{◌≡◌, refl, List, [], ◌∷◌, ℕ, ◌%◌, ◌*◌, ◌<◌, length, get_or, replicate}
use Rattle.std.proofs.Common.{mod-eq_of_lt}
use Rattle.tags.specs.Tags.{at}
use Rattle.lists.specs.Held.{things_of, Whole, Held, whole_zero}
use Rattle.store_words.specs.Entries.{Value, Bucket, room_for_entries, blank_value, blank_bucket}

abbrev pub value_words : ℕ
value_words = 4

abbrev pub bucket_words : ℕ
bucket_words = 3

unfoldable pub decode_value : List ℕ → Value
decode_value r = record { action = get_or r 0 0 % 65536; tag = at (get_or r 1 0) (get_or r 2 0 % 4294967296); value = get_or r 3 0 }

unfoldable pub encode_value : Value → List ℕ
encode_value v = v.action ∷ v.tag.offset ∷ v.tag.microstep ∷ v.value ∷ []

unfoldable pub decode_bucket : List ℕ → Bucket
decode_bucket r = record { action = get_or r 0 0 % 65536; offset = get_or r 1 0; next = get_or r 2 0 % 4294967296 }

unfoldable pub encode_bucket : Bucket → List ℕ
encode_bucket b = b.action ∷ b.offset ∷ b.next ∷ []

pub long_value : (v : Value) → length (encode_value v) ≡ value_words
unfolding encode_value
long_value v = refl

pub long_bucket : (b : Bucket) → length (encode_bucket b) ≡ bucket_words
unfolding encode_bucket
long_bucket b = refl

-- what an array holds, and what its writers ask and promise
abbrev pub values_of : List ℕ → List Value
values_of = things_of decode_value encode_value value_words room_for_entries long_value

abbrev pub WholeValues : List ℕ → Type 0
WholeValues = Whole decode_value encode_value value_words room_for_entries long_value

abbrev pub HeldValues : List ℕ → List Value → Type 0
HeldValues = Held decode_value encode_value value_words room_for_entries long_value

abbrev pub buckets_of : List ℕ → List Bucket
buckets_of = things_of decode_bucket encode_bucket bucket_words room_for_entries long_bucket

abbrev pub WholeBuckets : List ℕ → Type 0
WholeBuckets = Whole decode_bucket encode_bucket bucket_words room_for_entries long_bucket

abbrev pub HeldBuckets : List ℕ → List Bucket → Type 0
HeldBuckets = Held decode_bucket encode_bucket bucket_words room_for_entries long_bucket

-- what is written is read again, of what fits its words
pub value_back : (v : Value) → v.action < 65536 → v.tag.microstep < 4294967296 → decode_value (encode_value v) ≡ v
unfolding decode_value encode_value
value_back v a m = rw (mod-eq_of_lt a, mod-eq_of_lt m)

pub bucket_back : (b : Bucket) → b.action < 65536 → b.next < 4294967296 → decode_bucket (encode_bucket b) ≡ b
unfolding decode_bucket encode_bucket
bucket_back b a n = rw (mod-eq_of_lt a, mod-eq_of_lt n)

-- a fresh array
pub zero_values : WholeValues (replicate (room_for_entries * value_words) 0)
unfolding decode_value encode_value
zero_values = whole_zero decode_value encode_value value_words room_for_entries long_value blank_value refl refl

pub zero_buckets : WholeBuckets (replicate (room_for_entries * bucket_words) 0)
unfolding decode_bucket encode_bucket
zero_buckets = whole_zero decode_bucket encode_bucket bucket_words room_for_entries long_bucket blank_bucket refl refl
