-- The table check, the table writer, the rescue and the clock maps, as C has them. Assumes nothing.
use Rattle.std.specs.Prelude.{ℕ, ◌+◌, ◌*◌, ◌/◌, min, Bool, cond, ◌&&◌, List, [], ◌∷◌, ◌++◌, eqb, length, take, drop}
use Rattle.lists.specs.Walk.{Result, done, refused}
use Rattle.refusals.specs.declared.Refusal.{Refusal}
use Rattle.refusals.specs.Refusals.{number_of}
use Rattle.refusals.specs.declared.Refusal.TheVariants.{StateRule}
use Rattle.table.specs.Check as table
use Rattle.std.specs.Prelude.{Ok, Err}
use Rattle.table.specs.Check.{Checked}
use Rattle.table_writer.specs.Writer as writer
use Rattle.table_writer.specs.Writer.{Writing}
use Rattle.day_rescue.specs.Rescue.{Answered, answered, Rescued, saved}
use Rattle.day_rescue.specs.declared.Totals.{Totals}
use Rattle.day_rescue.specs.declared.RescueRefusal.TheVariants as refusals
use Rattle.tags.specs.Tags.{Tag, Clock}
use Rattle.day_records.specs.Records.{tag_at, is_bit, is_one}
use Rattle.table_rows.specs.Bytes.{be_bytes}
use Rattle.exports.specs.Told.{Told, told, front, with_room, no_room, word_bytes}

-- ---- the table check: 0 for a table, or the refusal's number; its place in eight bytes, 0 for a table

abbrev pub check_number : Checked → ℕ
check_number (Ok u) = 0
check_number (Err why) = table.number_of why

abbrev pub check_place : Checked → ℕ
check_place (Ok u) = 0
check_place (Err why) = table.place_of why

unfoldable pub check_told : Checked → List ℕ → Told
check_told c place = with_room 8 place (told (check_number c) (front place (be_bytes 8 (check_place c))))

-- ---- the table writer: the refusal's number, or 0, in the high half; its place, or how many bytes the image has, in the low half

abbrev pub half : ℕ
half = 4294967296

unfoldable pub write_told : Writing → Told
write_told w = told (writer.number_of w.answer * half + writer.place_of w.answer) w.buffer

-- ---- the rescue of a damaged day

-- three numbers of eight bytes before the runs: the bytes of the output, the records kept and the runs dropped
abbrev pub report_head : ℕ
report_head = 24

abbrev pub head_of : Totals → List ℕ
head_of t = word_bytes (t.written ∷ (t.records ∷ (t.listed / 16 ∷ [])))

-- 0, and the head over the front of the report; or the refusal's number in the high half and its place in the low one, and all stays as it was
abbrev pub rescue_by : Rescued → List ℕ → List ℕ → Answered ℕ
rescue_by (Ok t) output report = answered 0 output (front report (head_of t))
rescue_by (Err (refusals.Image why)) output report = answered (table.number_of why * half + table.place_of why) output report
rescue_by (Err refusals.NoRoom) output report = answered (no_room * half) output report

-- the runs stand behind the head
unfoldable pub rescue_bytes : List ℕ → List ℕ → List ℕ → Answered ℕ
rescue_bytes day output report =
    let r = saved day output (drop (min report_head (length report)) report) in
    rescue_by r.answer r.out (take (min report_head (length report)) report ++ r.list)

-- ---- the clock maps

-- G, L, allowed, S: tags of 12 bytes, and one that is 0 or 1
abbrev pub clock_in : List ℕ → Clock
clock_in bs = record { G = tag_at bs 0; L = tag_at bs 12; allowed = is_one bs 24; S = tag_at bs 25 }

unfoldable pub is_clock : List ℕ → Bool
is_clock bs = eqb (length bs) 37 && is_bit bs 24

-- by a map; bytes that are no clock break a state rule
unfoldable pub mapped : {A : Type 0} → (Clock → Tag → Result Refusal A) → List ℕ → Tag → Result Refusal A
mapped f bs t = cond (is_clock bs) (f (clock_in bs) t) (refused StateRule)

-- 0 and what it answers, in n bytes; or the refusal's number, and the bytes stay as they were
abbrev pub map_by : {A : Type 0} → (A → List ℕ) → Result Refusal A → List ℕ → Told
map_by bytes (done t) tag = told 0 (front tag (bytes t))
map_by bytes (refused n) tag = told (number_of n) tag

unfoldable pub map_told : {A : Type 0} → (A → List ℕ) → ℕ → Result Refusal A → List ℕ → Told
map_told bytes n a tag = with_room n tag (map_by bytes a tag)
