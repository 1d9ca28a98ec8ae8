-- Document 01, "Values and level walks": what a value and a bucket are, and the code's as these. Assumes nothing.
use Rattle.std.specs.Prelude.{ℕ, ◌≤◌}
use Rattle.lists.specs.Lists.{every}
use Rattle.table_rows.specs.Bytes.{Image}
use Rattle.table_rows.specs.Limits.{versions, limits, limits_fit}
use Rattle.tags.specs.Tags.{Tag, zero_tag}
use Rattle.tags.specs.Views.{of_global}
use Rattle.store_words.specs.declared.Value as code_value
use Rattle.store_words.specs.declared.Bucket as code_bucket

-- "A value is a u64 under action and tag"
pub record Value : Type 0 where
  pub action : ℕ
  pub tag : Tag
  pub value : ℕ

-- "A bucket remembers the next microstep", under action and offset
pub record Bucket : Type 0 where
  pub action : ℕ
  pub offset : ℕ
  pub next : ℕ

-- how many values, and how many buckets, the arrays have room for: no fewer than any image allows
abbrev pub room_for_entries : ℕ
room_for_entries = 256

pub held_fits : (s : Image) → (limits s).held ≤ room_for_entries
unfolding versions every
held_fits s = limits_fit (λ l. l.held) room_for_entries tt s

abbrev pub blank_value : Value
blank_value = record { action = 0; tag = zero_tag; value = 0 }

abbrev pub blank_bucket : Bucket
blank_bucket = record { action = 0; offset = 0; next = 0 }

abbrev pub of_value : code_value.Value → Value
of_value v = record { action = v.action; tag = of_global v.tag; value = v.value }

abbrev pub of_bucket : code_bucket.Bucket → Bucket
of_bucket b = record { action = b.action; offset = b.offset; next = b.next }
