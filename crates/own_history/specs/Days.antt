-- Demand 3 for a gate day: of `day_run::run_day`, and of `day_run::run_records` over pieces one after another. Assumes nothing but the accepted table.
use Prim.Native.Nat.{ℕ, zero, suc, ◌+◌, ◌-◌, ◌<◌, ◌≤◌}
use Rattle.std.specs.Prelude.{Bool, ◌≡◌, drop, Ok}
use Rattle.std.proofs.Math.Bool.{true, false, cond}
use Rattle.std.proofs.Math.Path.{refl, ap}
use Rattle.std.proofs.Common.{◌∙◌, sym, subst, arith, drop-cons}
use mathlib.Core.List.{List, [], ◌∷◌, ◌++◌, append_assoc}
use Rattle.std.proofs.Math.Dec.{ltb}
use Rattle.std.proofs.Math.ListN.{length, length-drop}
use Rattle.std.proofs.lemmas.List.{drop-append-le}
use borrow.Author.Tests.{ltb-true, ltb-false}
use Rattle.table_rows.specs.Bytes.{Image, be}
use Rattle.table.specs.Check.{is_table}
use Rattle.machine.specs.State.{State, fresh}
use Rattle.machine.specs.Machine.{Call, peek_tag, step, run}
use Rattle.state_room.specs.Holds.{Rows, rows_of, state_in}
use Rattle.state_room.proofs.Holds.{state_is}
use Rattle.day_records.specs.Records.{Record, call, malformed, cut, over, most_bytes, records_from}
use Rattle.day_records.proofs.DayLaws.{records_behind}
use Rattle.day_lines.specs.Lines.{line_of, table_line}
use Rattle.day_run.specs.Days.{pending, broken, whole, next_at, bytes_left, body_at, malformed_line, longest, line_at, state_at, answers_of, together, lines_of, calls_of, Ran, stopped, ran_in, ran_on}
use Rattle.day_run.specs.Days.{ran, image_in, opened, answers_by, day_answers, record_bytes}
use Rattle.day_run.specs.Views.{Pieced}
use Rattle.day_run.specs.declared.Pieces.{Pieces}
use Rattle.day_run.specs.Calls.{before, calls_in, calls_on, calls_taken, ran_runs}
use Rattle.day_run.proofs.WholeLaws.{open_table, whole_goes, broken_stops, piece_lines}
use Rattle.day_rescue.specs.Rescue.{day_rescue}
use Rattle.day_rescue.proofs.DayTheorems.{opened_again}
use Rattle.machine_history.specs.History.{moment, outcome}
use Rattle.machine_history.specs.Fates.{run_next}
use Rattle.machine_history.specs.One.{TheHistory, head_is, tail_is}
use Rattle.machine_history.proofs.One.{the_history}

-- ---- the lines of a file

-- a line for each record, where n calls came before: a call's is the line of what the machine answers to the call at place n
unfoldable pub lines_at : Image → List Call → ℕ → List Record → List (List ℕ)
lines_at img cs n [] = []
lines_at img cs n (call c ∷ rs) = line_of img (outcome img cs n).reply ∷ lines_at img cs (suc n) rs
lines_at img cs n (malformed ∷ rs) = malformed_line ∷ lines_at img cs n rs
lines_at img cs n (cut ∷ rs) = malformed_line ∷ lines_at img cs n rs
lines_at img cs n (over ∷ rs) = [] ∷ lines_at img cs n rs

lines_are : (img : Image) (cs : List Call) (rs : List Record) (n : ℕ) (s : State) → s ≡ moment img cs n → drop n cs ≡ calls_of rs → answers_of img s rs ≡ lines_at img cs n rs
unfolding answers_of lines_at calls_of
lines_are img cs [] n s e d = refl
lines_are img cs (malformed ∷ rs) n s e d = ap (malformed_line ∷◌) (lines_are img cs rs n s e d)
lines_are img cs (cut ∷ rs) n s e d = ap (malformed_line ∷◌) (lines_are img cs rs n s e d)
lines_are img cs (over ∷ rs) n s e d = ap ([] ∷◌) (lines_are img cs rs n s e d)
lines_are img cs (call c ∷ rs) n s e d =
    let l : n < length cs = let a = length-drop n cs in let b = ap length d in omega (arith, a, b) in
    let g = sym (drop-cons cs n peek_tag l) ∙ d in
    let o : step img s c ≡ outcome img cs n = ap (λ s. step img s c) e ∙ ap (step img (moment img cs n)) (sym (head_is g)) in
    rw (ap (λ o. line_of img o.reply) o)
    (ap (line_of img (outcome img cs n).reply ∷◌)
    (lines_are img cs rs (suc n) (step img s c).state (ap (λ o. o.state) o ∙ sym (run_next img cs (fresh img) n l)) (tail_is g)))

-- all records of some bytes, the calls among them, and the lines of the machine's answers in a run of these calls
abbrev pub records_of : List ℕ → List Record
records_of bytes = records_from bytes 0

abbrev pub file_calls : List ℕ → List Call
file_calls bytes = calls_of (records_of bytes)

abbrev pub file_lines : Image → List ℕ → List (List ℕ)
file_lines img bytes = lines_at img (file_calls bytes) 0 (records_of bytes)

file_lines_lem : (img : Image) (bytes : List ℕ) → answers_of img (fresh img) (records_of bytes) ≡ file_lines img bytes
unfolding run
file_lines_lem img bytes = lines_are img (file_calls bytes) (records_of bytes) 0 (fresh img) refl refl

-- ---- a whole day

-- where its table is accepted, the lines that `day_run::run_day` writes (`day_answers`) are the table's, and then those of the machine's answers in a run
-- of the calls among all records of the file; and this run has one history
pub day_fates :
    (day : List ℕ) → opened day ≡ Ok tt → let img = image_in day in
    TheHistory img (file_calls (record_bytes day)) × (day_answers day ≡ table_line (Ok tt) ∷ file_lines img (record_bytes day))
unfolding day_answers
day_fates day o =
    let img = image_in day in
    (the_history img (open_table day o) (file_calls (record_bytes day)), ap (λ x. answers_by x day) o ∙ ap (table_line (Ok tt) ∷◌) (file_lines_lem img (record_bytes day)))

-- and so it is with what is rescued of a damaged day (document 02, C-23): its image is accepted again
pub rescued_fates :
    (day : List ℕ) → opened day ≡ Ok tt → let out = (day_rescue day).kept in
    TheHistory (image_in out) (file_calls (record_bytes out)) × (day_answers out ≡ table_line (Ok tt) ∷ file_lines (image_in out) (record_bytes out))
rescued_fates day o = day_fates (day_rescue day).kept (opened_again day o)

-- ---- pieces one after another

-- bytes that come in, and the room for lines lent with them
pub record Piece : Type 0 where
  pub bytes : List ℕ
  pub room : ℕ

-- what the runs came to: the state, the calls taken, their lines, the bytes that are left, and whether a bad length ended the run
pub record Fed : Type 0 where
  pub state : State
  pub calls : List Call
  pub lines : List ℕ
  pub left : List ℕ
  pub ended : Bool

-- the run of one piece, of the bytes that were left before and its own: what `day_run::run_records` promises (`Pieced`)
abbrev pub first : Image → State → List ℕ → Piece → Fed
first img s left p =
    let a = left ++ p.bytes in
    let r = ran img a s p.room in
    record { state = r.state; calls = calls_taken img a s p.room; lines = r.lines; left = drop r.used a; ended = r.ended }

-- and then another's
abbrev pub then_fed : Fed → Fed → Fed
then_fed f g = record { state = g.state; calls = f.calls ++ g.calls; lines = f.lines ++ g.lines; left = g.left; ended = g.ended }

-- each run goes on from the state and with the bytes that the one before left; one that has ended is the last
unfoldable pub fed : Image → State → List ℕ → List Piece → Fed
fed img s left [] = record { state = s; calls = []; lines = []; left = left; ended = false }
fed img s left (p ∷ ps) = let f = first img s left p in cond f.ended f (then_fed f (fed img f.state f.left ps))

-- for the day that `day_run::run_records` hands back holds the state that its run came to
pub handed_on :
    (img : Image) (d : Rows) (bytes : List ℕ) (p : Pieces) {old new : List ℕ} → Pieced img (ran img bytes (state_in img d) (length old)) p bytes old new →
    state_in img (rows_of p.day) ≡ (ran img bytes (state_in img d) (length old)).state
handed_on img d bytes p w = state_is img _ (rows_of p.day) w.holds

-- all that came in: the file
unfoldable pub bytes_of : List Piece → List ℕ
bytes_of [] = []
bytes_of (p ∷ ps) = p.bytes ++ bytes_of ps

-- ---- the calls of a piece are the first of the file's

before_append : (r : Record) (x y : List Call) → before r (x ++ y) ≡ before r x ++ y
before_append (call c) x y = refl
before_append malformed x y = refl
before_append cut x y = refl
before_append over x y = refl

calls_of_lem : (r : Record) (rs : List Record) → calls_of (r ∷ rs) ≡ before r (calls_of rs)
unfolding calls_of
calls_of_lem (call c) rs = refl
calls_of_lem malformed rs = refl
calls_of_lem cut rs = refl
calls_of_lem over rs = refl

module _ (img : Image) (a b : List ℕ) where
  -- of the calls from place i on, those taken and those left
  record Taken (i : ℕ) (taken : List Call) (r : Ran) : Type 0 where
    inside : r.used ≤ length a
    calls : calls_of (records_from (a ++ b) i) ≡ taken ++ cond r.ended [] (calls_of (records_from (a ++ b) r.used))

  taken_none : (s : State) (i : ℕ) → i ≤ length a → Taken i [] (stopped s i)
  taken_none s i h = record { inside = h; calls = refl }

  taken_in_lem : (n : ℕ) (s : State) (i room : ℕ) → i ≤ length a → Taken i (calls_in n img a s i room) (ran_in n img a s i room)
  unfolding ran_in calls_in next_at calls_of
  taken_in_lem zero s i room h = taken_none s i h
  taken_in_lem (suc n) s i room h = turn (λ t j k. taken_in_lem n t j k) (ltb room longest) (ltb (bytes_left a i) 4) refl (ltb most_bytes (be 4 a i)) refl (ltb (bytes_left a i) (4 + be 4 a i)) refl
    where
      turn : ((t : State) (j k : ℕ) → j ≤ length a → Taken j (calls_in n img a t j k) (ran_in n img a t j k)) →
          (o : Bool) (p : Bool) → p ≡ ltb (bytes_left a i) 4 → (q : Bool) → q ≡ ltb most_bytes (be 4 a i) → (r : Bool) → r ≡ ltb (bytes_left a i) (4 + be 4 a i) →
          let x = cond p pending (cond q broken (cond r pending (whole (be 4 a i)))) in
          Taken i (cond o [] (calls_on img a s i room (calls_in n img a) x)) (cond o (stopped s i) (ran_on img a s i room (ran_in n img a) x))
      turn g true p ep q eq r er = taken_none s i h
      turn g false true ep q eq r er = taken_none s i h
      turn g false false ep true eq r er =
          record { inside = h; calls = ap calls_of (broken_stops a b i h (ltb-false (bytes_left a i) 4 (sym ep)) (ltb-true most_bytes (be 4 a i) (sym eq))) }
      turn g false false ep false eq true er = taken_none s i h
      turn g false false ep false eq false er =
          let m = be 4 a i in
          let r = body_at a i m in
          let fit = ltb-false (bytes_left a i) (4 + m) (sym er) in
          let e = length-drop i a in
          let t = g (state_at img s r) (i + 4 + m) (room - length (line_at img s r)) (omega (arith, fit, e)) in
          record {
            inside = t.inside;
            calls =
                ap calls_of (whole_goes a b i h (ltb-false (bytes_left a i) 4 (sym ep)) (ltb-false most_bytes m (sym eq)) fit) ∙
                (calls_of_lem r (records_from (a ++ b) (i + 4 + m)) ∙ (ap (before r) t.calls ∙ before_append r _ _));
          }

  piece_taken : (s : State) (room : ℕ) → Taken 0 (calls_taken img a s room) (ran img a s room)
  unfolding ran calls_taken
  piece_taken s room = taken_in_lem (length a) s 0 room (omega arith)

-- ---- what runs say of a file: `rest` are the bytes left and still to come

run_then : (img : Image) (s : State) (x y : List Call) → run img s (x ++ y) ≡ run img (run img s x) y
unfolding run
run_then img s [] y = refl
run_then img s (c ∷ x) y = run_then img (step img s c).state x y

pub record Says (img : Image) (s : State) (file rest : List ℕ) (f : Fed) : Type 0 where
  -- the state is the machine's after the calls taken
  pub state : f.state ≡ run img s f.calls
  -- these are the first calls of the file, and those of the rest follow; after a bad length none does
  pub calls : file_calls file ≡ f.calls ++ cond f.ended [] (file_calls rest)
  -- and so it is with the lines
  pub lines : lines_of img s (records_of file) ≡ f.lines ++ cond f.ended [] (lines_of img f.state (records_of rest))

says_first : (img : Image) (s : State) (left : List ℕ) (p : Piece) (more : List ℕ) → Says img s ((left ++ p.bytes) ++ more) ((first img s left p).left ++ more) (first img s left p)
says_first img s left p more =
    let a = left ++ p.bytes in
    let r = ran img a s p.room in
    let t = piece_taken img a more s p.room in
    let d = drop-append-le r.used a more t.inside in
    record {
      state = ran_runs img a s p.room;
      calls = t.calls ∙ ap (λ rs. calls_taken img a s p.room ++ cond r.ended [] (calls_of rs)) (records_behind (a ++ more) r.used ∙ ap records_of d);
      lines = piece_lines img a more s p.room ∙ ap (λ l. r.lines ++ cond r.ended [] (lines_of img r.state (records_of l))) d;
    }

module _ (img : Image) (s : State) (file : List ℕ) where
  says_last : (f : Fed) (x y : List ℕ) → f.ended ≡ true → Says img s file x f → Says img s file y f
  says_last f x y e h =
      record { state = h.state; calls = rw e (rw e at h).calls; lines = rw e (rw e at h).lines }

  says_then : (f g : Fed) (mid rest : List ℕ) → f.ended ≡ false → Says img s file mid f → Says img f.state mid rest g → Says img s file rest (then_fed f g)
  says_then f g mid rest e h k =
      record {
        state = k.state ∙ (ap (λ t. run img t g.calls) h.state ∙ sym (run_then img s f.calls g.calls));
        calls = (rw e at h).calls ∙ (ap (f.calls ++◌) k.calls ∙ sym (append_assoc f.calls g.calls _));
        lines = (rw e at h).lines ∙ (ap (f.lines ++◌) k.lines ∙ sym (append_assoc f.lines g.lines _));
      }

fed_says : (img : Image) (ps : List Piece) (s : State) (left more : List ℕ) → Says img s (left ++ (bytes_of ps ++ more)) ((fed img s left ps).left ++ more) (fed img s left ps)
unfolding fed bytes_of run
fed_says img [] s left more = record { state = refl; calls = refl; lines = refl }
fed_says img (p ∷ ps) s left more =
    let f = first img s left p in
    let next = bytes_of ps ++ more in
    let e : (left ++ p.bytes) ++ next ≡ left ++ ((p.bytes ++ bytes_of ps) ++ more) =
    append_assoc left p.bytes next ∙ ap (left ++◌) (sym (append_assoc p.bytes (bytes_of ps) more)) in
    subst (λ file. Says img s file ((fed img s left (p ∷ ps)).left ++ more) (fed img s left (p ∷ ps))) e
    (go f.ended refl (says_first img s left p next) (fed_says img ps f.state f.left more))
  where
    go : (b : Bool) → let f = first img s left p in let g = fed img f.state f.left ps in let next = bytes_of ps ++ more in
        f.ended ≡ b → Says img s ((left ++ p.bytes) ++ next) (f.left ++ next) f → Says img f.state (f.left ++ next) (g.left ++ more) g →
        let h = cond b f (then_fed f g) in Says img s ((left ++ p.bytes) ++ next) (h.left ++ more) h
    go true e h k = says_last img s _ (first img s left p) _ _ e h
    go false e h k = says_then img s _ (first img s left p) _ _ _ e h k

-- pieces one after another from `day_run::start`, and whatever comes behind them: the calls taken so far are the first of all calls of the file, the state
-- is the machine's after them, and they have one history, as all calls of the file have; the lines are the first of the file's, each call's the line of the
-- machine's answer to it
pub record PieceFates (img : Image) (ps : List Piece) (more : List ℕ) : Type 0 where
  pub said : Says img (fresh img) (bytes_of ps ++ more) ((fed img (fresh img) [] ps).left ++ more) (fed img (fresh img) [] ps)
  pub taken : TheHistory img (fed img (fresh img) [] ps).calls
  pub all : TheHistory img (file_calls (bytes_of ps ++ more))
  pub lines : lines_of img (fresh img) (records_of (bytes_of ps ++ more)) ≡ together (file_lines img (bytes_of ps ++ more))

pub piece_fates : (img : Image) → is_table img ≡ true → (ps : List Piece) (more : List ℕ) → PieceFates img ps more
unfolding lines_of
piece_fates img t ps more =
    record {
      said = fed_says img ps (fresh img) [] more;
      taken = the_history img t (fed img (fresh img) [] ps).calls;
      all = the_history img t (file_calls (bytes_of ps ++ more));
      lines = ap together (file_lines_lem img (bytes_of ps ++ more));
    }
