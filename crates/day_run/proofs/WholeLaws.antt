-- A piece's run and the whole day: the lines of the pieces, one behind the other, are those of all records. Assumes nothing.
use mathlib.Core.Bool.{Bool, true, false, cond, ◌&&◌, ◌||◌}
use mathlib.Core.Path.{◌≡◌, refl, ap, ◌∙◌, sym, subst}
use mathlib.Core.Logic.{◌⊎◌, inl, inr}
use mathlib.Core.List.{List, [], ◌∷◌, ◌++◌, append_assoc, append-nil}
use Prim.Native.Nat.{ℕ, zero, suc, ◌+◌, ◌-◌, ◌≤◌, ◌<◌}
use native.Mathlib.Omega.{arith}
use lib.Dec.{ltb, eqb}
use lib.ListN.{length, take, drop, get_or, set, length-drop, length-append}
use lib.Seq.{sets, length-take-le, take_all, drop-length, take-append-le, drop-append-le, get_or-take, get_or-drop}
use borrow.Author.Tests.{lt-ltb, le-ltb, ltb-true, ltb-false, eq-eqb, ne_eqb}
use Rattle.lists.specs.Tests.{same?, or_neither}
use Rattle.lists.specs.Every.{no_way, or_left, or_right, not_both, either_is}
use Rattle.table_rows.specs.Bytes.{Image, be}
use Rattle.table.specs.Check.{check, accepts, is_table}
use Rattle.std.specs.Prelude.{Ok, Err}
use Rattle.table.specs.Check.{Checked}
use Rattle.table.specs.declared.ImageRefusal.{ImageRefusal}
use Rattle.table.specs.declared.ImageRefusal.TheVariants.{Length}
use Rattle.machine.specs.State.{State, fresh}
use Rattle.machine.specs.Machine.{Call, run}
use Rattle.day_records.specs.Records.{Record, call, malformed, cut, over, counts, version, most_bytes, length_of, length_at, plain_of, network_of, control_of, action_of, transition_of, pop_of, op_of}
use Rattle.day_records.specs.Records.{body_of, record_at, goes_on, records_from, is_bit, keys_fill}
use Rattle.day_records.specs.Records as R
use Rattle.day_records.proofs.Laws.{length_short, length_counts, length_over}
use Rattle.day_records.proofs.DayLaws.{none_left, record_there, record_short, record_broken, record_over, records_step, records_behind}
use Rattle.day_lines.specs.Lines.{table_line}
use Rattle.byte_writer.specs.Written.{Written}
use Rattle.byte_writer.proofs.WrittenLaws.{written_none, written_then, written_as, written_long, written_room}
use Rattle.table_rows.specs.Kinds.{largest}
use Rattle.day_run.specs.Days.{Next, pending, broken, whole, next_at, bytes_left, body_at, Ran, stopped, ended_at, behind, longest, malformed_line, line_at, state_at, answers_of, together}
use Rattle.day_run.specs.Days.{lines_of, calls_of, fitting, ran_in, ran_on, ran, image_end, image_in, opened, answers_by, day_answers, day_lines, record_bytes}
use Rattle.state_room.specs.Holds.{Rows, state_in}
use Rattle.day_run.specs.Views.{Pieced}
use Rattle.day_run.specs.declared.Pieces.{Pieces}

-- ---- a record by its bytes is one that the run goes on behind

record Goes (r : Record) : Type 0 where
  on : (rest : List Record) → goes_on r rest ≡ r ∷ rest

call_goes : (c : Call) → Goes (call c)
call_goes c = record { on = λ rest. refl }

malformed_goes : Goes malformed
malformed_goes = record { on = λ rest. refl }

either_goes : (b : Bool) {x y : Record} → Goes x → Goes y → Goes (cond b x y)
either_goes true p q = p
either_goes false p q = q

op_goes : (op : ℕ) (b : List ℕ) → Goes (op_of op b)
unfolding op_of plain_of network_of control_of action_of transition_of pop_of
op_goes op b =
    either_goes (eqb op 1) (either_goes (is_bit b 14 && keys_fill b 15) (call_goes _) malformed_goes)
    (either_goes (eqb op 2) (either_goes (keys_fill b 14) (call_goes _) malformed_goes)
    (either_goes (eqb op 3) (either_goes (eqb (length b) 14) (call_goes _) malformed_goes)
    (either_goes (eqb op 4) (either_goes (is_bit b 16 && keys_fill b 17) (call_goes _) malformed_goes)
    (either_goes (eqb op 5) (either_goes (is_bit b 6 && eqb (length b) 19) (call_goes _) malformed_goes)
    (either_goes (eqb op 6) (either_goes (eqb (length b) 2) (call_goes _) malformed_goes) malformed_goes)))))

body_goes : (b : List ℕ) → Goes (body_of b)
unfolding body_of
body_goes b = either_goes (eqb (be 1 b 0) version) (op_goes (be 1 b 1) b) malformed_goes

-- ---- what stands at a place of a piece, with more behind it

be_part : (k n : ℕ) (s : List ℕ) (i : ℕ) → k ≤ n → be k (take n (drop i s)) 0 ≡ be k s i
unfolding be
be_part zero n s i h = refl
be_part (suc k) n s i h =
    let e : get_or (take n (drop i s)) k 0 ≡ get_or s (i + k) 0 = get_or-take n (drop i s) k 0 (omega arith) ∙ get_or-drop i s k 0 in
    let z : 0 + k ≡ k = omega arith in
    rw (z, be_part k n s i (omega arith), e)

module _ (a b : List ℕ) (i : ℕ) (h : i ≤ length a) (four : 4 ≤ bytes_left a i) where
  head_long : length (take 4 (drop i a)) ≡ 4
  head_long = length-take-le 4 (drop i a) four

  head_is : length_at (a ++ b) i ≡ length_of (take 4 (drop i a))
  unfolding length_at
  head_is = ap length_of (ap (take 4) (drop-append-le i a b h) ∙ take-append-le 4 (drop i a) b four)

  some_head : length (take 4 (drop i a)) ≡ 0 → ⊥
  some_head z = omega (arith, z, head_long)

  broken_there : most_bytes < be 4 a i → record_at (a ++ b) i ≡ cut
  broken_there l = record_broken (a ++ b) i (length_over (take 4 (drop i a)) some_head (omega (arith, head_long)) (sym (be_part 4 4 a i (omega arith))) l ∙ sym head_is)

  module _ (l : be 4 a i ≤ most_bytes) where
    whole_counts : counts (be 4 a i) ≡ length_at (a ++ b) i
    whole_counts = length_counts (take 4 (drop i a)) some_head (omega (arith, head_long)) (sym (be_part 4 4 a i (omega arith))) l ∙ sym head_is

    module _ (fit : 4 + be 4 a i ≤ bytes_left a i) where
      behind_is : drop (i + 4) (a ++ b) ≡ drop (i + 4) a ++ b
      behind_is = drop-append-le (i + 4) a b (let e = length-drop i a in omega (arith, e, four))

      bytes_there : be 4 a i ≤ length (drop (i + 4) a)
      bytes_there = let e = length-drop i a in let d = length-drop (i + 4) a in omega (arith, e, d, fit)

      whole_there : record_at (a ++ b) i ≡ body_at a i (be 4 a i)
      whole_there =
          record_there (a ++ b) i whole_counts (rw (behind_is, length-append) (let t = bytes_there in omega (arith, t))) ∙
          ap body_of (ap (take (be 4 a i)) behind_is ∙ take-append-le (be 4 a i) (drop (i + 4) a) b bytes_there)

      -- the records from there on: it, and those behind it
      pub whole_goes : records_from (a ++ b) i ≡ body_at a i (be 4 a i) ∷ records_from (a ++ b) (i + 4 + be 4 a i)
      whole_goes =
          records_step (a ++ b) i ∙
          (ap (λ r. goes_on r (records_from (a ++ b) (R.behind i (length_at (a ++ b) i)))) whole_there ∙
          (ap (λ w. goes_on (body_at a i (be 4 a i)) (records_from (a ++ b) (R.behind i w))) (sym whole_counts) ∙ (body_goes (take (be 4 a i) (drop (i + 4) a))).on _))

  pub broken_stops : most_bytes < be 4 a i → records_from (a ++ b) i ≡ cut ∷ []
  broken_stops l = records_step (a ++ b) i ∙ ap (λ r. goes_on r (records_from (a ++ b) (R.behind i (length_at (a ++ b) i)))) (broken_there l)

-- ---- the run of a piece, and what is left behind it: for whatever is told of records one behind the other, with their lines put before what follows

module _ {X : Type 0} (img : Image) (g : ℕ → State → List Record → X) (put : List ℕ → X → X) (stop : State → X)
    (put_none : (x : X) → put [] x ≡ x) (put_two : (l m : List ℕ) (x : X) → put l (put m x) ≡ put (l ++ m) x)
    (g-stops : (room : ℕ) (s : State) → longest ≤ room → g room s (cut ∷ []) ≡ put malformed_line (stop s))
    (g-more : (room : ℕ) (s : State) (r : Record) (rs : List Record) → longest ≤ room →
    g room s (r ∷ rs) ≡ put (line_at img s r) (g (room - length (line_at img s r)) (state_at img s r) rs))
    (a b : List ℕ) where
  abbrev from : ℕ → State → ℕ → X
  from room s i = g room s (records_from (a ++ b) i)

  abbrev left_over : ℕ → Ran → X
  left_over room r = cond r.ended (stop r.state) (from (room - length r.lines) r.state r.used)

  abbrev Tells : State → ℕ → ℕ → Ran → Type 0
  Tells s i room r = from room s i ≡ put r.lines (left_over room r)

  stays : (s : State) (i room : ℕ) → Tells s i room (stopped s i)
  stays s i room = let z : room - 0 ≡ room = omega arith in ap (λ k. from k s i) (sym z) ∙ sym (put_none (from (room - 0) s i))

  ends : (s : State) (i room : ℕ) → longest ≤ room → records_from (a ++ b) i ≡ cut ∷ [] → Tells s i room (ended_at s i)
  ends s i room l e = ap (g room s) e ∙ g-stops room s l

  goes_on_lem : (s : State) (i j room : ℕ) (r : Record) (q : Ran) → longest ≤ room → records_from (a ++ b) i ≡ r ∷ records_from (a ++ b) j →
      Tells (state_at img s r) j (room - length (line_at img s r)) q → Tells s i room (behind (line_at img s r) q)
  goes_on_lem s i j room r q l e t =
      let m = line_at img s r in
      let z : room - length m - length q.lines ≡ room - length (m ++ q.lines) = rw length-append (omega arith) in
      ap (g room s) e ∙
      (g-more room s r (records_from (a ++ b) j) l ∙
      (ap (put m) t ∙ (put_two m q.lines _ ∙ ap (λ k. put (m ++ q.lines) (cond q.ended (stop q.state) (from k q.state q.used))) z)))

  tells_in : (n : ℕ) (s : State) (i room : ℕ) → i ≤ length a → Tells s i room (ran_in n img a s i room)
  unfolding ran_in next_at
  tells_in zero s i room h = stays s i room
  tells_in (suc n) s i room h = turn (λ t j k. tells_in n t j k) (ltb room longest) refl (ltb (bytes_left a i) 4) refl (ltb most_bytes (be 4 a i)) refl (ltb (bytes_left a i) (4 + be 4 a i)) refl
    where
      turn : ((t : State) (j k : ℕ) → j ≤ length a → Tells t j k (ran_in n img a t j k)) →
          (o : Bool) → o ≡ ltb room longest → (p : Bool) → p ≡ ltb (bytes_left a i) 4 → (q : Bool) → q ≡ ltb most_bytes (be 4 a i) → (r : Bool) → r ≡ ltb (bytes_left a i) (4 + be 4 a i) →
          Tells s i room (cond o (stopped s i) (ran_on img a s i room (ran_in n img a) (cond p pending (cond q broken (cond r pending (whole (be 4 a i)))))))
      turn g true eo p ep q eq r er = stays s i room
      turn g false eo true ep q eq r er = stays s i room
      turn g false eo false ep true eq r er = ends s i room (ltb-false room longest (sym eo)) (broken_stops a b i h (ltb-false (bytes_left a i) 4 (sym ep)) (ltb-true most_bytes (be 4 a i) (sym eq)))
      turn g false eo false ep false eq true er = stays s i room
      turn g false eo false ep false eq false er =
          let fit = ltb-false (bytes_left a i) (4 + be 4 a i) (sym er) in
          let e = length-drop i a in
          let m = line_at img s (body_at a i (be 4 a i)) in
          goes_on_lem s i (i + 4 + be 4 a i) room (body_at a i (be 4 a i)) (ran_in n img a (state_at img s (body_at a i (be 4 a i))) (i + 4 + be 4 a i) (room - length m)) (ltb-false room longest (sym eo))
          (whole_goes a b i h (ltb-false (bytes_left a i) 4 (sym ep)) (ltb-false most_bytes (be 4 a i) (sym eq)) fit)
          (g _ (i + 4 + be 4 a i) _ (omega (arith, fit, e)))

  -- of all records is told what the piece's run tells, and behind it what the records tell that are left
  pub ran_tells : (s : State) (room : ℕ) → Tells s 0 room (ran img a s room)
  unfolding ran
  ran_tells s room = tells_in (length a) s 0 room (omega arith)

-- ---- the state: after the calls of a piece, and then of those that are left

calls_on_lem : (img : Image) (s : State) (r : Record) (rs : List Record) → run img s (calls_of (r ∷ rs)) ≡ run img (state_at img s r) (calls_of rs)
unfolding calls_of run
calls_on_lem img s (call c) rs = refl
calls_on_lem img s malformed rs = refl
calls_on_lem img s cut rs = refl
calls_on_lem img s over rs = refl

pub ran_state : (img : Image) (a b : List ℕ) (s : State) (room : ℕ) → let r = ran img a s room in
    run img s (calls_of (records_from (a ++ b) 0)) ≡ cond r.ended r.state (run img r.state (calls_of (records_from (a ++ b) r.used)))
unfolding calls_of run
ran_state img a b s room =
    ran_tells img (λ k t rs. run img t (calls_of rs)) (λ l x. x) (λ t. t) (λ x. refl) (λ l m x. refl) (λ k t l. refl) (λ k t r rs l. calls_on_lem img t r rs) a b s room

-- ---- all lines, and those that fit

pub fitting_full : (room : ℕ) (ls : List (List ℕ)) → room < longest → fitting room ls ≡ []
unfolding fitting
fitting_full room [] h = refl
fitting_full room (l ∷ ls) h = rw (lt-ltb room longest h)

pub fitting_more : (room : ℕ) (l : List ℕ) (ls : List (List ℕ)) → longest ≤ room → fitting room (l ∷ ls) ≡ l ++ fitting (room - length l) ls
unfolding fitting
fitting_more room l ls h = rw (le-ltb room longest h)

fitting_none : (room : ℕ) → fitting room [] ≡ []
unfolding fitting
fitting_none room = refl

-- lines put one behind the other by f, all of them or while there is room: those of a piece, and behind them those of the records that are left
module _ (f : ℕ → List (List ℕ) → List ℕ) (f-none : (room : ℕ) → f room [] ≡ [])
    (f-more : (room : ℕ) (l : List ℕ) (ls : List (List ℕ)) → longest ≤ room → f room (l ∷ ls) ≡ l ++ f (room - length l) ls) (img : Image) (a b : List ℕ) (s : State) (room : ℕ) where
  pub ran_lines : let r = ran img a s room in
      f room (answers_of img s (records_from (a ++ b) 0)) ≡ r.lines ++ cond r.ended [] (f (room - length r.lines) (answers_of img r.state (records_from (a ++ b) r.used)))
  unfolding answers_of
  ran_lines =
      ran_tells img (λ k t rs. f k (answers_of img t rs)) (λ l x. l ++ x) (λ t. []) (λ x. refl) (λ l m x. sym (append_assoc l m x))
      (λ k t l. f-more k malformed_line [] l ∙ ap (λ x. malformed_line ++ x) (f-none _)) (λ k t r rs l. f-more k (line_at img t r) (answers_of img (state_at img t r) rs) l) a b s room

-- so a day that comes in pieces has the lines of each piece, and behind them those of the bytes that the piece left and of what comes behind it
pub piece_lines : (img : Image) (a b : List ℕ) (s : State) (room : ℕ) → let r = ran img a s room in
    lines_of img s (records_from (a ++ b) 0) ≡ r.lines ++ cond r.ended [] (lines_of img r.state (records_from (drop r.used (a ++ b)) 0))
unfolding lines_of together
piece_lines img a b s room =
    let r = ran img a s room in
    ran_lines (λ k. together) (λ k. refl) (λ k l ls h. refl) img a b s room ∙
    ap (λ rs. r.lines ++ cond r.ended [] (together (answers_of img r.state rs))) (records_behind (a ++ b) r.used)

-- room for all of them and for a longest line more is enough
pub fitting_all : (ls : List (List ℕ)) (room : ℕ) → length (together ls) + longest ≤ room → fitting room ls ≡ together ls
unfolding together
fitting_all [] room h = fitting_none room
fitting_all (l ∷ ls) room h =
    let e = length-append l (together ls) in
    fitting_more room l ls (omega (arith, h)) ∙ ap (λ x. l ++ x) (fitting_all ls (room - length l) (omega (arith, h, e)))

-- and where a longest line has room behind them, nothing was held back
pub fitting_whole : (ls : List (List ℕ)) (room : ℕ) → longest ≤ room - length (fitting room ls) → fitting room ls ≡ together ls
unfolding together
fitting_whole [] room h = fitting_none room
fitting_whole (l ∷ ls) room h =
    let g : longest ≤ room = omega (arith, h) in
    let k : longest ≤ room - length (l ++ fitting (room - length l) ls) = rw (fitting_more room l ls g) at h in
    let e = length-append l (fitting (room - length l) ls) in
    fitting_more room l ls g ∙ ap (λ x. l ++ x) (fitting_whole ls (room - length l) (omega (arith, k, e)))

module _ (day : List ℕ) (room : ℕ) where
  pub day_fits : length (day_lines day) + longest ≤ room → fitting room (day_answers day) ≡ day_lines day
  unfolding day_lines
  day_fits h = fitting_all (day_answers day) room h

  pub day_whole : longest ≤ room - length (fitting room (day_answers day)) → fitting room (day_answers day) ≡ day_lines day
  unfolding day_lines
  day_whole h = fitting_whole (day_answers day) room h

-- ---- the bytes at the end of a day: none, or "refused 1"

abbrev ends_in : List ℕ → ℕ → List Record
ends_in a i = cond (eqb i (length a)) [] (cut ∷ [])

module _ (a : List ℕ) (i : ℕ) where
  pub over_rests : length a ≤ i → records_from a i ≡ []
  over_rests h = records_step a i ∙ ap (λ r. goes_on r (records_from a (R.behind i (length_at a i)))) (record_over a i (none_left a i h))

  cut_rests : record_at a i ≡ cut → records_from a i ≡ cut ∷ []
  cut_rests e = records_step a i ∙ ap (λ r. goes_on r (records_from a (R.behind i (length_at a i)))) e

  module _ (h : i < length a) where
    few_rest : bytes_left a i < 4 → records_from a i ≡ cut ∷ []
    unfolding length_at
    few_rest l =
        let e = length-drop i a in
        let t : length (take 4 (drop i a)) ≡ length (drop i a) = ap length (take_all 4 (drop i a) (omega (arith, l))) in
        cut_rests (record_broken a i (length_short (take 4 (drop i a)) (λ z. omega (arith, z, t, e, h)) (omega (arith, t, l))))

    short_rests : 4 ≤ bytes_left a i → be 4 a i ≤ most_bytes → bytes_left a i < 4 + be 4 a i → records_from a i ≡ cut ∷ []
    short_rests four l k =
        let e = length-drop i a in
        let d = length-drop (i + 4) a in
        let c : counts (be 4 a i) ≡ length_at a i = rw (append-nil a) at (whole_counts a [] i (omega (arith, h)) four l) in
        cut_rests (record_short a i c (omega (arith, d, e, k, four)))

  -- no record is whole there
  pending_rests : i ≤ length a → (i < length a → records_from a i ≡ cut ∷ []) → records_from a i ≡ ends_in a i
  pending_rests h f = go (same? i (length a))
    where
      go : (i ≡ length a) ⊎ (i ≡ length a → ⊥) → records_from a i ≡ ends_in a i
      go (inl e) = over_rests (omega (arith, e)) ∙ sym (ap (λ t. cond t [] (cut ∷ [])) (eq-eqb i (length a) e))
      go (inr n) = f (omega (arith, h, n)) ∙ sym (ap (λ t. cond t [] (cut ∷ [])) (ne_eqb i (length a) n))

module _ (img : Image) (a : List ℕ) where
  -- where a run has not ended, and not for want of room, it has taken every whole record
  abbrev Rests : ℕ → Ran → Type 0
  Rests room r = r.ended ≡ false → longest ≤ room - length r.lines → records_from a r.used ≡ ends_in a r.used

  rests_in : (n : ℕ) (s : State) (i room : ℕ) → i ≤ length a → length a ≤ i + n → Rests room (ran_in n img a s i room)
  unfolding ran_in next_at
  rests_in zero s i room h k = λ d l. pending_rests a i h λ m. absurd (omega (arith, m, k))
  rests_in (suc n) s i room h k =
      turn (λ t j m u v. rests_in n t j m u v) (ltb room longest) refl (ltb (bytes_left a i) 4) refl (ltb most_bytes (be 4 a i)) refl (ltb (bytes_left a i) (4 + be 4 a i)) refl
    where
      turn : ((t : State) (j m : ℕ) → j ≤ length a → length a ≤ j + n → Rests m (ran_in n img a t j m)) →
          (o : Bool) → o ≡ ltb room longest → (p : Bool) → p ≡ ltb (bytes_left a i) 4 → (q : Bool) → q ≡ ltb most_bytes (be 4 a i) → (r : Bool) → r ≡ ltb (bytes_left a i) (4 + be 4 a i) →
          Rests room (cond o (stopped s i) (ran_on img a s i room (ran_in n img a) (cond p pending (cond q broken (cond r pending (whole (be 4 a i)))))))
      turn g true eo p ep q eq r er = λ d l. absurd (let t = ltb-true room longest (sym eo) in omega (arith, t, l))
      turn g false eo true ep q eq r er = λ d l. pending_rests a i h λ m. few_rest a i m (ltb-true (bytes_left a i) 4 (sym ep))
      turn g false eo false ep true eq r er = λ d l. no_way (sym d)
      turn g false eo false ep false eq true er = λ d l.
          pending_rests a i h λ m. short_rests a i m (ltb-false (bytes_left a i) 4 (sym ep)) (ltb-false most_bytes (be 4 a i) (sym eq)) (ltb-true (bytes_left a i) (4 + be 4 a i) (sym er))
      turn g false eo false ep false eq false er = λ d l.
          let fit = ltb-false (bytes_left a i) (4 + be 4 a i) (sym er) in
          let e = length-drop i a in
          let m = line_at img s (body_at a i (be 4 a i)) in
          let q = ran_in n img a (state_at img s (body_at a i (be 4 a i))) (i + 4 + be 4 a i) (room - length m) in
          let z = length-append m q.lines in
          g _ (i + 4 + be 4 a i) _ (omega (arith, fit, e)) (omega (arith, k)) d (omega (arith, l, z))

  pub ran_rests : (s : State) (room : ℕ) → Rests room (ran img a s room)
  unfolding ran
  ran_rests s room = rests_in (length a) s 0 room (omega arith) (omega arith)

  -- a run that takes nothing and has not ended has no line
  abbrev Moves : ℕ → Ran → Type 0
  Moves i r = (i ≤ r.used) × (r.used ≡ i → r.ended ≡ false → r.lines ≡ [])

  moves_in : (n : ℕ) (s : State) (i room : ℕ) → Moves i (ran_in n img a s i room)
  unfolding ran_in
  moves_in zero s i room = (omega arith, λ u e. refl)
  moves_in (suc n) s i room = turn (λ t j k. moves_in n t j k) (ltb room longest) (next_at a i)
    where
      turn : ((t : State) (j k : ℕ) → Moves j (ran_in n img a t j k)) → (o : Bool) (x : Next) → Moves i (cond o (stopped s i) (ran_on img a s i room (ran_in n img a) x))
      turn g true x = (omega arith, λ u e. refl)
      turn g false pending = (omega arith, λ u e. refl)
      turn g false broken = (omega arith, λ u e. no_way (sym e))
      turn g false (whole m) = let h = (g (state_at img s (body_at a i m)) (i + 4 + m) (room - length (line_at img s (body_at a i m)))).0 in (omega (arith, h), λ u e. absurd (omega (arith, h, u)))

  pub ran_none : (s : State) (room : ℕ) → let r = ran img a s room in r.used ≡ 0 → r.ended ≡ false → r.lines ≡ []
  unfolding ran
  ran_none s room = (moves_in (length a) s 0 room).1

  -- so where nothing is taken though a line has room, no call is left
  pub rests_calls : (s t : State) (room : ℕ) → let r = ran img a s room in longest ≤ room → r.used ≡ 0 → r.ended ≡ false → run img t (calls_of (records_from a 0)) ≡ t
  unfolding calls_of run
  rests_calls s t room l u e =
      let r = ran img a s room in
      let n = ap length (ran_none s room u e) in
      ap (λ i. run img t (calls_of (records_from a i))) (sym u) ∙
      (ap (λ rs. run img t (calls_of rs)) (ran_rests s room e (omega (arith, n, l))) ∙ no_calls (eqb r.used (length a)))
    where
      no_calls : (b : Bool) → run img t (calls_of (cond b [] (cut ∷ []))) ≡ t
      no_calls true = refl
      no_calls false = refl

-- ---- a day's records in one run: its lines, and what is said of the bytes at the end

module _ (img : Image) (a : List ℕ) (s : State) (room : ℕ) where
  abbrev Q : Ran
  Q = ran img a s room

  abbrev All : List ℕ
  All = fitting room (answers_of img s (records_from a 0))

  abbrev Left : List ℕ
  Left = fitting (room - length Q.lines) (answers_of img Q.state (records_from a Q.used))

  fits : All ≡ Q.lines ++ cond Q.ended [] Left
  fits = rw (append-nil a) at (ran_lines fitting fitting_none fitting_more img a [] s room)

  pub whole_ended : Q.ended ≡ true → Q.lines ≡ All
  whole_ended e = sym (fits ∙ (ap (λ t. Q.lines ++ cond t [] Left) e ∙ append-nil Q.lines))

  module _ (e : Q.ended ≡ false) where
    left_is : {l : List ℕ} → Left ≡ l → Q.lines ++ l ≡ All
    left_is d = sym (fits ∙ (ap (λ t. Q.lines ++ cond t [] Left) e ∙ ap (λ x. Q.lines ++ x) d))

    pub whole_over : Q.used ≡ length a → Q.lines ≡ All
    unfolding answers_of
    whole_over u = sym (append-nil Q.lines) ∙ left_is (ap (λ rs. fitting (room - length Q.lines) (answers_of img Q.state rs)) (over_rests a Q.used (omega (arith, u))) ∙ fitting_none _)

    pub whole_full : room - length Q.lines < longest → Q.lines ≡ All
    whole_full l = sym (append-nil Q.lines) ∙ left_is (fitting_full _ _ l)

    pub whole_cut : (Q.used ≡ length a → ⊥) → longest ≤ room - length Q.lines → Q.lines ++ malformed_line ≡ All
    unfolding answers_of
    whole_cut u l =
        left_is
        (ap (λ rs. fitting (room - length Q.lines) (answers_of img Q.state rs)) (ran_rests img a s room e l ∙ ap (λ t. cond t [] (cut ∷ [])) (ne_eqb Q.used (length a) u)) ∙
        (fitting_more _ malformed_line [] l ∙ (ap (λ x. malformed_line ++ x) (fitting_none _) ∙ append-nil malformed_line)))

-- ---- the same, of what a piece's run leaves

module _ (img : Image) (a old : List ℕ) {new : List ℕ} (d : Rows) {p : Pieces} (v : state_in img d ≡ fresh img) (w : Pieced img (ran img a (state_in img d) (length old)) p a old new) where
  abbrev piece : Ran
  piece = ran img a (fresh img) (length old)

  abbrev Says : List ℕ → ℕ → Type 0
  Says out end = Written old 0 (fitting (length old) (answers_of img (fresh img) (records_from a 0))) out end

  from_fresh : Pieced img piece p a old new
  from_fresh = subst (λ s. Pieced img (ran img a s (length old)) p a old new) v w

  room_is : length new - p.written ≡ length old - length piece.lines
  room_is = let l = written_long from_fresh.lines in let e = from_fresh.lines.end_is in omega (arith, l, e)

  pub run_ended : p.ended ≡ true → Says new p.written
  run_ended e = written_as from_fresh.lines (whole_ended img a (fresh img) (length old) (sym from_fresh.ended ∙ e))

  module _ (e : p.ended ≡ false) where
    goes : piece.ended ≡ false
    goes = sym from_fresh.ended ∙ e

    pub run_over : p.used ≡ length a → Says new p.written
    run_over u = written_as from_fresh.lines (whole_over img a (fresh img) (length old) goes (sym from_fresh.used ∙ u))

    pub run_full : length new - p.written < longest → Says new p.written
    run_full l = written_as from_fresh.lines (whole_full img a (fresh img) (length old) goes (rw room_is at l))

    pub run_cut : (p.used ≡ length a → ⊥) → longest ≤ length new - p.written → {out : List ℕ} {end : ℕ} → Written new p.written malformed_line out end → Says out end
    run_cut u l x =
        written_as (written_then from_fresh.lines x) (whole_cut img a (fresh img) (length old) goes (λ z. u (from_fresh.used ∙ z)) (rw room_is at l))

-- ---- the image

module _ (day : List ℕ) where
  refused_open : (ltb (length day) (image_end day) || ltb largest (image_end day)) ≡ true → Err Length ≡ opened day
  unfolding opened
  refused_open e = sym (ap (λ t. cond t (Err Length) (check (image_in day))) e)

  module _ (end : ℕ) (e : end ≡ image_end day) where
    pub open_short : length day < end → Err Length ≡ opened day
    open_short h = refused_open (or_left _ (lt-ltb (length day) (image_end day) (rw e at h)))

    pub open_large : largest < end → Err Length ≡ opened day
    open_large h = refused_open (or_right (ltb (length day) (image_end day)) (lt-ltb largest (image_end day) (rw e at h)))

    pub open_checked : end ≤ length day → end ≤ largest → {r : Checked} → r ≡ check (take end day) → r ≡ opened day
    unfolding opened
    open_checked h l c =
        c ∙ (ap (λ n. check (take n day)) e ∙
        sym (ap (λ t. cond t (Err Length) (check (image_in day))) (or_neither _ _ (le-ltb (length day) (image_end day) (rw e at h)) (le-ltb largest (image_end day) (rw e at l)))))

  module _ (t : opened day ≡ Ok tt) where
    table_there : ((ltb (length day) (image_end day) || ltb largest (image_end day)) ≡ false) × (check (image_in day) ≡ Ok tt)
    unfolding opened
    table_there = either_is (ltb (length day) (image_end day) || ltb largest (image_end day)) t (λ u v. no_way (ap accepts v)) (λ u v. (u, v))

    pub open_fits : image_end day ≤ length day
    open_fits = ltb-false (length day) (image_end day) (not_both _ _ table_there.0).0

    pub open_table : is_table (image_in day) ≡ true
    unfolding is_table
    open_table = ap accepts table_there.1

-- ---- the table's line, and behind it the records'

-- the part of a list behind a place
pub rest_is : (l : List ℕ) (i : ℕ) → take (length l - i) (drop i l) ≡ drop i l
rest_is l i = take_all (length l - i) (drop i l) (let e = length-drop i l in omega (arith, e))

sets_cons : (x : ℕ) (l : List ℕ) (i : ℕ) (vs : List ℕ) → sets (x ∷ l) (suc i) vs ≡ x ∷ sets l i vs
sets_cons x l i [] = refl
sets_cons x l i (v ∷ vs) = sets_cons x (set l i v) (suc i) vs

pub sets_behind : (l : List ℕ) (m : ℕ) (vs : List ℕ) → m ≤ length l → sets l m vs ≡ take m l ++ sets (drop m l) 0 vs
sets_behind l zero vs h = refl
sets_behind [] (suc m) vs h = absurd (omega arith)
sets_behind (x ∷ l) (suc m) vs h = sets_cons x l m vs ∙ ap (λ t. x ∷ t) (sets_behind l m vs (omega arith))

-- what is written into the part behind a place is written into the whole there
written_behind : {l vs new : List ℕ} {m end : ℕ} → m ≤ length l → Written (drop m l) 0 vs new end → Written l m vs (take m l ++ new) (m + end)
written_behind {l} {vs} {new} {m} {end} h w =
    let e = w.end_is in
    let d = length-drop m l in
    record { all = ap (λ x. take m l ++ x) w.all ∙ sym (sets_behind l m vs h); end_is = omega (arith, e, d, h) }

module _ (day old : List ℕ) where
  abbrev Told : List ℕ → ℕ → Type 0
  Told new end = Written old 0 (fitting (length old) (day_answers day)) new end

  pub told_none : length old < longest → Told old 0
  told_none h = written_as (written_none old 0 (omega arith)) (sym (fitting_full (length old) (day_answers day) h))

  module _ (room : longest ≤ length old) {mid : List ℕ} {m : ℕ} {checked : Checked} (o : checked ≡ opened day) (w : Written old 0 (table_line checked) mid m) where
    pub told_refused : {r : ImageRefusal} → checked ≡ Err r → Told mid m
    unfolding day_answers
    told_refused {r} e =
        written_as w
        (ap table_line e ∙ sym
        (ap (λ t. fitting (length old) (answers_by t day)) (sym o ∙ e) ∙
        (fitting_more (length old) (table_line (Err r)) [] room ∙ (ap (λ x. table_line (Err r) ++ x) (fitting_none _) ∙ append-nil (table_line (Err r))))))

    pub told_accepted : checked ≡ Ok tt → {end : ℕ} → end ≡ image_end day → {new : List ℕ} {n : ℕ} →
        Written (take (length mid - m) (drop m mid)) 0
        (fitting (length (take (length mid - m) (drop m mid))) (answers_of (take end day) (fresh (take end day)) (records_from (take (length day - end) (drop end day)) 0))) new n →
        Told (take m mid ++ (new ++ drop (length mid - m) (drop m mid))) (m + n)
    unfolding day_answers
    told_accepted e {end} k {new} {n} x =
        let part = take (length mid - m) (drop m mid) in
        let q : part ≡ drop m mid = rest_is mid m in
        let first = table_line (Ok tt) in
        let v : Written old 0 first mid m = written_as w (ap table_line e) in
        let inside : m ≤ length mid = written_room v in
        let d = length-drop m mid in
        let long : length part ≡ length old - length first = ap length q ∙ (let l = written_long v in let b = v.end_is in omega (arith, d, l, b)) in
        let none : drop (length mid - m) (drop m mid) ≡ [] = ap (λ j. drop j (drop m mid)) (sym d) ∙ drop-length (drop m mid) in
        let all : new ++ drop (length mid - m) (drop m mid) ≡ new = ap (λ l. new ++ l) none ∙ append-nil new in
        let lines = answers_of (take end day) (fresh (take end day)) (records_from (take (length day - end) (drop end day)) 0) in
        let these : lines ≡ answers_of (image_in day) (fresh (image_in day)) (records_from (record_bytes day) 0) =
        ap (λ l. answers_of (take end day) (fresh (take end day)) (records_from l 0)) (rest_is day end) ∙
        ap (λ j. answers_of (take j day) (fresh (take j day)) (records_from (drop j day) 0)) k in
        let y : Written (drop m mid) 0 (fitting (length part) lines) new n = subst (λ l. Written l 0 (fitting (length part) lines) new n) q x in
        subst (λ l. Told (take m mid ++ l) (m + n)) (sym all)
        (written_as (written_then v (written_behind inside y))
        (ap (λ j. first ++ fitting j lines) long ∙
        (ap (λ ls. first ++ fitting (length old - length first) ls) these ∙
        (sym (fitting_more (length old) first (answers_of (image_in day) (fresh (image_in day)) (records_from (record_bytes day) 0)) room) ∙
        ap (λ t. fitting (length old) (answers_by t day)) (sym (sym o ∙ e))))))
