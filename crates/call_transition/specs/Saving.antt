-- The rows in use, saved one part behind the other in a spare, and the rows that they come back to. Assumes nothing.
use Rattle.std.specs.Prelude.{List, ℕ, ◌+◌, ◌*◌, ◌≤◌, take, drop}
use Rattle.table_rows.specs.Bytes.{Image}
use Rattle.store_words.specs.Entries.{room_for_entries}
use Rattle.store_words.specs.Words.{value_words, bucket_words}
use Rattle.machine.specs.Table as table
use Rattle.state_events.specs.Slots.{room_for_events, slot_words}
use Rattle.state_scopes.specs.Scopes.{most_scopes, scope_words}
use Rattle.state_room.specs.declared.Ledger.{Ledger}
use Rattle.state_room.specs.Padded.{padded}
use Rattle.state_room.specs.Holds.{Rows}
use Rattle.call_transition.specs.declared.Fronts.{Fronts}

-- no more rows are in use than there are
pub record Few (img : Image) (l : Ledger) : Type 0 where
  pub scopes : table.scopes img ≤ most_scopes
  pub waiting : l.counts.waiting ≤ room_for_events
  pub values : l.held.values ≤ room_for_entries
  pub buckets : l.held.buckets ≤ room_for_entries

-- their words: of the scopes as many as the table has, of the others as many as the ledger counts
abbrev pub fronts_of : Image → Ledger → Fronts
fronts_of img l =
    record { scopes = table.scopes img * scope_words; events = l.counts.waiting * slot_words; values = l.held.values * value_words; buckets = l.held.buckets * bucket_words }

-- no more words than there are
pub record Fit (f : Fronts) : Type 0 where
  pub scopes : f.scopes ≤ most_scopes * scope_words
  pub events : f.events ≤ room_for_events * slot_words
  pub values : f.values ≤ room_for_entries * value_words
  pub buckets : f.buckets ≤ room_for_entries * bucket_words

-- each part's words in the spare, and zeros behind them
unfoldable pub saved_in : Fronts → Ledger → List ℕ → Rows
saved_in f l ws =
    record {
      scopes = padded 0 (most_scopes * scope_words) (take f.scopes ws);
      events = padded 0 (room_for_events * slot_words) (take f.events (drop f.scopes ws));
      values = padded 0 (room_for_entries * value_words) (take f.values (drop (f.scopes + f.events) ws));
      buckets = padded 0 (room_for_entries * bucket_words) (take f.buckets (drop (f.scopes + f.events + f.values) ws));
      ledger = l;
    }
