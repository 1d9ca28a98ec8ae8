-- The rules of a store handed in with its counts, and the slot of a key. Assumes nothing.
use Rattle.std.specs.Prelude.{ℕ, ◌+◌, ◌*◌, ◌%◌, Bool, ◌&&◌, leb}
use Rattle.store_words.specs.Entries.{Value, Bucket}
use Rattle.store.specs.Store.{Store, store_rules}

-- no more are counted than may be held, and the store that is counted keeps the rules
unfoldable pub counted_rules : ℕ → ℕ → ℕ → ℕ → Store → Bool
counted_rules limit actions values buckets s = leb values limit && (leb buckets limit && store_rules limit actions s)

abbrev pub slots : ℕ
slots = 4096

unfoldable pub slot_of : ℕ → ℕ → ℕ → ℕ
slot_of a o m = (o % 4093 + m * 31 + a * 997) % slots

abbrev pub value_slot : Value → ℕ
value_slot v = slot_of v.action v.tag.offset v.tag.microstep

abbrev pub bucket_slot : Bucket → ℕ
bucket_slot b = slot_of b.action b.offset 0
