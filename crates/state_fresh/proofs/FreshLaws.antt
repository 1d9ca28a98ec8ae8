-- What the loops of a fresh manager's arrays know, and that the arrays hold a fresh state. Assumes nothing.
use mathlib.Core.Path.{◌≡◌, refl, ◌∙◌}
use mathlib.Core.List.{List, map}
use Prim.Native.Nat.{ℕ, ◌+◌, ◌*◌}
use lib.ListN.{set, replicate}
use Rattle.lists.specs.Lists.{from}
use Rattle.state_scopes.specs.Scopes as scope
use Rattle.state_scopes.specs.Scopes.{Scope, most_scopes, scopes_of}
use Rattle.lists.specs.Held as H
use Rattle.store_words.specs.Entries.{room_for_entries, blank_value, blank_bucket}
use Rattle.store_words.specs.Words.{value_words, bucket_words, decode_value, encode_value, long_value, decode_bucket}
use Rattle.store_words.specs.Words.{encode_bucket, long_bucket, HeldValues, HeldBuckets, zero_values, zero_buckets}
use Rattle.state_room.specs.Padded.{padded}
use Rattle.state_room.specs.PartRows.{Scoped, most_reactors}
use Rattle.state_fresh.specs.Filled.{fill_none, fill_more}

module _ (f : ℕ → ℕ) where
  pub modes_none : replicate most_reactors 0 ≡ padded 0 most_reactors (map f (from 0 0))
  modes_none = fill_none 0 most_reactors f

  pub modes_more : (i m : ℕ) {out : List ℕ} → out ≡ padded 0 most_reactors (map f (from 0 i)) → m ≡ f i → set out i m ≡ padded 0 most_reactors (map f (from 0 (i + 1)))
  modes_more i m e h = rw (e, h) (fill_more 0 most_reactors f i)

module _ (f : ℕ → Scope) where
  pub scopes_none : {out : List ℕ} → scope.Held out (replicate most_scopes scope.blank) → Scoped (map f (from 0 0)) out
  scopes_none h = record { whole = h.whole; things = h.things ∙ fill_none scope.blank most_scopes f }

  pub scopes_more : (i : ℕ) (x : Scope) (old out : List ℕ) → Scoped (map f (from 0 i)) old → x ≡ f i → scope.Held out (set (scopes_of old) i x) → Scoped (map f (from 0 (i + 1))) out
  scopes_more i x old out s e h = record { whole = h.whole; things = h.things ∙ rw (s.things, e) (fill_more scope.blank most_scopes f i) }

pub no_values : HeldValues (replicate (room_for_entries * value_words) 0) (replicate room_for_entries blank_value)
unfolding decode_value encode_value
no_values = record { whole = zero_values; things = H.zero_things decode_value encode_value value_words room_for_entries long_value blank_value refl refl (room_for_entries * value_words) }

pub no_buckets : HeldBuckets (replicate (room_for_entries * bucket_words) 0) (replicate room_for_entries blank_bucket)
unfolding decode_bucket encode_bucket
no_buckets = record { whole = zero_buckets; things = H.zero_things decode_bucket encode_bucket bucket_words room_for_entries long_bucket blank_bucket refl refl (room_for_entries * bucket_words) }
