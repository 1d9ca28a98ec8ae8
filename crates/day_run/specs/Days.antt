-- Document 01, "The bench program": the lines of a gate day, an image and its records. Assumes nothing.
use Rattle.std.specs.Prelude.{ℕ, zero, suc, ◌+◌, ◌-◌, Bool, true, false, cond, ◌||◌, List, [], ◌∷◌, ◌++◌, ltb, length, take, drop, Ok, Err}
use Rattle.table_rows.specs.Bytes.{Image, be}
use Rattle.table_rows.specs.Kinds.{largest}
use Rattle.table.specs.Check.{Checked, check}
use Rattle.table.specs.declared.ImageRefusal.TheVariants.{Length}
use Rattle.machine.specs.State.{State, fresh}
use Rattle.machine.specs.Machine.{Call, step}
use Rattle.day_records.specs.Records.{Record, call, malformed, cut, over, body_of, most_bytes, records_from}
use Rattle.day_lines.specs.Lines.{line_of, refused_line, table_line}

-- ---- one record: its line, and the state after it

-- "A malformed record is refused": "refused 1"
abbrev pub malformed_line : List ℕ
malformed_line = refused_line 1

abbrev pub line_at : Image → State → Record → List ℕ
line_at img s (call c) = line_of img (step img s c).reply
line_at img s malformed = malformed_line
line_at img s cut = malformed_line
line_at img s over = []

abbrev pub state_at : Image → State → Record → State
state_at img s (call c) = (step img s c).state
state_at img s malformed = s
state_at img s cut = s
state_at img s over = s

-- ---- all records

-- a line for each, from a state on
unfoldable pub answers_of : Image → State → List Record → List (List ℕ)
answers_of img s [] = []
answers_of img s (r ∷ rs) = line_at img s r ∷ answers_of img (state_at img s r) rs

-- one behind the other
unfoldable pub together : List (List ℕ) → List ℕ
together [] = []
together (l ∷ ls) = l ++ together ls

unfoldable pub lines_of : Image → State → List Record → List ℕ
lines_of img s rs = together (answers_of img s rs)

-- room that the longest line needs, with much to spare
abbrev pub longest : ℕ
longest = 4096

-- as many lines, from the first on, as there are while the longest still has room
unfoldable pub fitting : ℕ → List (List ℕ) → List ℕ
fitting room [] = []
fitting room (l ∷ ls) = cond (ltb room longest) [] (l ++ fitting (room - length l) ls)

-- the calls among the records
unfoldable pub calls_of : List Record → List Call
calls_of [] = []
calls_of (call c ∷ rs) = c ∷ calls_of rs
calls_of (malformed ∷ rs) = calls_of rs
calls_of (cut ∷ rs) = calls_of rs
calls_of (over ∷ rs) = calls_of rs

-- ---- records as they come, in bytes that may end in the middle of one

-- what stands at a place: fewer bytes than a record has, and more may follow; a length that no record has; or a record, and how many bytes its length counts
pub data Next : Type 0 where
  pending : Next
  broken : Next
  whole : ℕ → Next

abbrev pub bytes_left : List ℕ → ℕ → ℕ
bytes_left bytes i = length (drop i bytes)

unfoldable pub next_at : List ℕ → ℕ → Next
next_at bytes i =
    let n = be 4 bytes i in
    cond (ltb (bytes_left bytes i) 4) pending
    (cond (ltb most_bytes n) broken (cond (ltb (bytes_left bytes i) (4 + n)) pending (whole n)))

-- the record there
abbrev pub body_at : List ℕ → ℕ → ℕ → Record
body_at bytes i n = body_of (take n (drop (i + 4) bytes))

-- the state after the records that were taken, the bytes they have, their lines, and whether a bad length stopped the run
pub record Ran : Type 0 where
  pub state : State
  pub used : ℕ
  pub lines : List ℕ
  pub ended : Bool

abbrev pub stopped : State → ℕ → Ran
stopped s i = record { state = s; used = i; lines = []; ended = false }

abbrev pub ended_at : State → ℕ → Ran
ended_at s i = record { state = s; used = i; lines = malformed_line; ended = true }

abbrev pub behind : List ℕ → Ran → Ran
behind l r = record { state = r.state; used = r.used; lines = l ++ r.lines; ended = r.ended }

-- a record's line, and the rest of the run behind it
abbrev pub ran_on : Image → List ℕ → State → ℕ → ℕ → (State → ℕ → ℕ → Ran) → Next → Ran
ran_on img bytes s i room rest pending = stopped s i
ran_on img bytes s i room rest broken = ended_at s i
ran_on img bytes s i room rest (whole m) =
    let r = body_at bytes i m in
    let l = line_at img s r in
    behind l (rest (state_at img s r) (i + 4 + m) (room - length l))

-- as many whole records as there are, while a line has room; each turn takes four bytes or more, so n turns are enough for n bytes
unfoldable pub ran_in : ℕ → Image → List ℕ → State → ℕ → ℕ → Ran
ran_in zero img bytes s i room = stopped s i
ran_in (suc n) img bytes s i room = cond (ltb room longest) (stopped s i) (ran_on img bytes s i room (ran_in n img bytes) (next_at bytes i))

unfoldable pub ran : Image → List ℕ → State → ℕ → Ran
ran img bytes s room = ran_in (length bytes) img bytes s 0 room

-- ---- a whole day: an image, and all bytes behind it as records

-- the image by its length, which "counts all that follows"
abbrev pub image_end : List ℕ → ℕ
image_end day = 4 + be 4 day 0

abbrev pub image_in : List ℕ → Image
image_in day = take (image_end day) day

abbrev pub record_bytes : List ℕ → List ℕ
record_bytes day = drop (image_end day) day

-- "An image cut short or longer than the largest is "table refused 1 0"."
unfoldable pub opened : List ℕ → Checked
opened day = cond (ltb (length day) (image_end day) || ltb largest (image_end day)) (Err Length) (check (image_in day))

-- "table ok", and a line for each record; or "table refused N PLACE", "and the run ends"
abbrev pub answers_by : Checked → List ℕ → List (List ℕ)
answers_by (Ok u) day = table_line (Ok u) ∷ answers_of (image_in day) (fresh (image_in day)) (records_from (record_bytes day) 0)
answers_by (Err r) day = table_line (Err r) ∷ []

unfoldable pub day_answers : List ℕ → List (List ℕ)
day_answers day = answers_by (opened day) day

-- all lines of a gate day
unfoldable pub day_lines : List ℕ → List ℕ
day_lines day = together (day_answers day)
