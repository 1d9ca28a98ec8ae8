-- The state after a day's records, as bytes in the order that harness/barnshiver.h names. Assumes nothing.
use Rattle.std.specs.Prelude.{ℕ, ◌+◌, ◌*◌, Bool, cond, List, [], ◌∷◌, ◌++◌, length}
use Rattle.lists.specs.Held.{words_of}
use Rattle.table_rows.specs.Bytes.{Image}
use Rattle.table.specs.Check.{Checked, number_of}
use Rattle.std.specs.Prelude.{Ok, Err}
use Rattle.store_words.specs.Entries.{room_for_entries, blank_value, blank_bucket}
use Rattle.store_words.specs.Words.{decode_value, encode_value, value_words, long_value, decode_bucket, encode_bucket, bucket_words, long_bucket}
use Rattle.machine.specs.State.{State, fresh}
use Rattle.state_events.specs.Slots.{room_for_events}
use Rattle.machine.specs.Heads.{peek, control_only}
use Rattle.machine.specs.Machine.{Reply, ok, refusal, nothing, ready, tag, flag, number, peek_at, run}
use Rattle.state_events.specs.Slots as slot
use Rattle.state_scopes.specs.Scopes as scope
use Rattle.state_scopes.specs.Scopes.{most_scopes}
use Rattle.state_room.specs.Padded.{padded}
use Rattle.state_room.specs.PartRows.{most_reactors}
use Rattle.day_records.specs.Records.{records_from}
use Rattle.day_run.specs.Days.{calls_of, image_in, record_bytes, opened}
use Rattle.exports.specs.Told.{Told, told, front, with_room, word_bytes}

-- the plain machine's state after the calls among the records
unfoldable pub after_all : Image → List ℕ → State
after_all img bytes = run img (fresh img) (calls_of (records_from bytes 0))

-- ---- its words

-- found, offset and microstep of a peek's answer
abbrev pub peek_words : Reply → List ℕ
peek_words ok = 0 ∷ 0 ∷ 0 ∷ []
peek_words (refusal n) = 0 ∷ 0 ∷ 0 ∷ []
peek_words nothing = 0 ∷ 0 ∷ 0 ∷ []
peek_words (ready r) = 0 ∷ 0 ∷ 0 ∷ []
peek_words (tag t) = 1 ∷ t.offset ∷ t.microstep ∷ []
peek_words (flag b) = 0 ∷ 0 ∷ 0 ∷ []
peek_words (number n) = 0 ∷ 0 ∷ 0 ∷ []

abbrev pub flag_word : Bool → ℕ
flag_word b = cond b 1 0

-- the peek tag, control only, work, and how many events, values and buckets there are
unfoldable pub first_words : Image → State → List ℕ
first_words img s =
    peek_words (peek_at (peek img s.scopes s.waiting)) ++
    (flag_word (control_only img s.scopes s.waiting) ∷ s.work ∷ length s.waiting ∷ length s.store.values ∷ length s.store.buckets ∷ [])

abbrev pub modes_in : State → List ℕ
modes_in s = padded 0 most_reactors s.modes

abbrev pub scopes_in : State → List ℕ
scopes_in s = words_of scope.decode scope.encode scope.scope_words most_scopes scope.encode_long (padded scope.blank most_scopes s.scopes)

abbrev pub events_in : State → List ℕ
events_in s = words_of slot.decode slot.encode slot.slot_words room_for_events slot.encode_long (padded slot.blank room_for_events s.waiting)

abbrev pub values_in : State → List ℕ
values_in s = words_of decode_value encode_value value_words room_for_entries long_value (padded blank_value room_for_entries s.store.values)

abbrev pub buckets_in : State → List ℕ
buckets_in s = words_of decode_bucket encode_bucket bucket_words room_for_entries long_bucket (padded blank_bucket room_for_entries s.store.buckets)

-- of eight bytes each, one kind behind the other
unfoldable pub state_bytes : Image → State → List ℕ
state_bytes img s =
    word_bytes (first_words img s) ++
    (word_bytes (modes_in s) ++ (word_bytes (scopes_in s) ++ (word_bytes (events_in s) ++ (word_bytes (values_in s) ++ word_bytes (buckets_in s)))))

abbrev pub state_length : ℕ
state_length = 8 * (8 + most_reactors + most_scopes * scope.scope_words + room_for_events * slot.slot_words + room_for_entries * value_words + room_for_entries * bucket_words)

-- ---- what is told of a day, an image and its records

-- 0 and the state; or the image's refusal as the bench has it, and the bytes stay as they were
abbrev pub state_by : Checked → List ℕ → List ℕ → Told
state_by (Ok u) day state = told 0 (front state (state_bytes (image_in day) (after_all (image_in day) (record_bytes day))))
state_by (Err why) day state = told (number_of why) state

unfoldable pub state_told : List ℕ → List ℕ → Told
state_told day state = with_room state_length state (state_by (opened day) day state)
