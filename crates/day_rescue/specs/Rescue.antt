-- Document 02, C-23: what is kept of a damaged gate day and what is dropped, and what is told of it in lent bytes. Assumes nothing.
use Rattle.std.specs.Prelude.{ℕ, zero, suc, ◌+◌, ◌-◌, ◌*◌, Bool, true, false, cond, ◌&&◌, List, [], ◌∷◌, ◌++◌, leb, eqb, length, take, drop, Result, Ok, Err}
use Rattle.std.proofs.lemmas.List.Edits.{sets}
use Rattle.table_rows.specs.Bytes.{be_bytes}
use Rattle.table.specs.Check.{Checked}
use Rattle.day_records.specs.Records.{most_bytes, is_formed, length_at, record_at, behind}
use Rattle.day_run.specs.Days.{image_end, image_in, record_bytes, opened}
use Rattle.day_rescue.specs.declared.Run.{Run}
use Rattle.day_rescue.specs.declared.Piece.{Piece}
use Rattle.day_rescue.specs.declared.Totals.{Totals}
use Rattle.day_rescue.specs.declared.RescueRefusal.{RescueRefusal}
use Rattle.day_rescue.specs.declared.RescueRefusal.TheVariants.{Image, NoRoom}

-- ---- "each run of dropped bytes by place and length": the place from the file's first byte

abbrev pub run : ℕ → ℕ → Run
run place length = record { place = place; length = length }

-- the place behind a run
abbrev pub past : Run → ℕ
past r = r.place + r.length

abbrev pub longer : Run → Run
longer r = run r.place (r.length + 1)

-- a run without a byte is none
abbrev pub listed : Run → List Run
listed r = cond (eqb r.length 0) [] (r ∷ [])

-- ---- from a place of the records on

-- the bytes kept and how many records they are, the runs dropped before kept ones, where it stops, and the run that is pending there
pub record Walk : Type 0 where
  pub kept : List ℕ
  pub records : ℕ
  pub dropped : List Run
  pub at : ℕ
  pub pending : Run

abbrev pub stopped : ℕ → Run → Walk
stopped i r = record { kept = []; records = 0; dropped = []; at = i; pending = r }

abbrev pub before : List ℕ → ℕ → List Run → Walk → Walk
before bytes n rs w = record { kept = bytes ++ w.kept; records = n + w.records; dropped = rs ++ w.dropped; at = w.at; pending = w.pending }

-- the bytes from i up to j
abbrev pub between : List ℕ → ℕ → ℕ → List ℕ
between s i j = take (j - i) (drop i s)

-- "it takes each record that is well formed by 01's rules; where the bytes at a place aren't one, it drops a byte and tries the next place", at the
-- places before `end`; each turn goes on by a byte or more, so n turns are enough for n bytes
unfoldable pub walk_in : ℕ → List ℕ → ℕ → ℕ → Run → Walk
walk_in zero s end i r = stopped i r
walk_in (suc n) s end i r =
    let j = behind i (length_at s i) in
    cond (leb end i) (stopped i r)
    (cond (is_formed (record_at s i)) (before (between s i j) 1 (listed r) (walk_in n s end j (run (past r + (j - i)) 0)))
    (walk_in n s end (i + 1) (longer r)))

unfoldable pub walk : List ℕ → ℕ → ℕ → Run → Walk
walk s end i r = walk_in (length s) s end i r

-- at the end of the file the pending run is over too
abbrev pub closed : Bool → Walk → Walk
closed false w = w
closed true w = record { kept = w.kept; records = w.records; dropped = w.dropped ++ listed w.pending; at = w.at; pending = run (past w.pending) 0 }

-- all records of a file: the bytes of this list, which begin at a place
unfoldable pub rescue_from : ℕ → List ℕ → Walk
rescue_from place s = closed true (walk s (length s) 0 (run place 0))

-- ---- a whole day: "The output has the image and the kept records only"; "An image that is refused rescues nothing."

abbrev pub nothing : Walk
nothing = stopped 0 (run 0 0)

abbrev pub rescue_by : Checked → List ℕ → Walk
rescue_by (Ok u) day = before (image_in day) 0 [] (rescue_from (image_end day) (record_bytes day))
rescue_by (Err why) day = nothing

unfoldable pub day_rescue : List ℕ → Walk
day_rescue day = rescue_by (opened day) day

-- ---- in lent bytes

-- a run: its place and its length, eight bytes each
unfoldable pub run_bytes : List Run → List ℕ
run_bytes [] = []
run_bytes (r ∷ rs) = be_bytes 8 r.place ++ (be_bytes 8 r.length ++ run_bytes rs)

-- the most bytes that the runs of n bytes take: each but the last has a record of six bytes or more behind it
abbrev pub list_room : ℕ → ℕ
list_room n = 16 + 3 * n

abbrev pub most_place : ℕ
most_place = 18446744073709551615

-- n bytes behind a pending run: room for all that may be kept and listed, and their places are numbers of eight bytes
unfoldable pub roomy : ℕ → Run → ℕ → ℕ → Bool
roomy n r out list = leb n out && (leb (list_room n) list && leb (past r + n) most_place)

-- an answer, and what the lent bytes are then
pub record Answered (A : Type 0) : Type 0 where
  pub answer : A
  pub out : List ℕ
  pub list : List ℕ

abbrev pub answered : {A : Type 0} → A → List ℕ → List ℕ → Answered A
answered a out list = record { answer = a; out = out; list = list }

-- what a piece comes to
abbrev pub told : Walk → List ℕ → List ℕ → Answered Piece
told w out list =
    answered (record { used = w.at; written = length w.kept; listed = length (run_bytes w.dropped); records = w.records; pending = w.pending })
    (sets out 0 w.kept) (sets list 0 (run_bytes w.dropped))

-- nothing of it is done
abbrev pub untouched : Run → Piece
untouched r = record { used = 0; written = 0; listed = 0; records = 0; pending = r }

-- where the longest record may not be there whole, more bytes are waited for, unless these are the last
abbrev pub last_place : Bool → ℕ → ℕ
last_place last n = cond last n (n - (most_bytes + 3))

unfoldable pub piecing : List ℕ → Bool → Run → List ℕ → List ℕ → Answered Piece
piecing s last r out list =
    cond (roomy (length s) r (length out) (length list)) (told (closed last (walk s (last_place last (length s)) 0 r)) out list)
    (told (stopped 0 r) out list)

-- ---- what a whole day comes to

abbrev pub totals : Piece → Totals
totals p = record { written = p.written; listed = p.listed; records = p.records }

-- "Refusals: 1 to 4 as for the image", and then too little room; the lent bytes then stay as they were
abbrev pub Rescued : Type 0
Rescued = Result Totals RescueRefusal

abbrev pub saved_by : Checked → List ℕ → List ℕ → List ℕ → Answered Rescued
saved_by (Ok u) day out list =
    let p = told (day_rescue day) out list in
    cond (roomy (length day) (run 0 0) (length out) (length list)) (answered (Ok (totals p.answer)) p.out p.list)
    (answered (Err NoRoom) out list)
saved_by (Err why) day out list = answered (Err (Image why)) out list

unfoldable pub saved : List ℕ → List ℕ → List ℕ → Answered Rescued
saved day out list = saved_by (opened day) day out list
