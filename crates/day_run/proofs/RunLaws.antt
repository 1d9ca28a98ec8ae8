-- What the loop over a piece's records knows: the state that the arrays hold, the lines written, and what is left of the run. Assumes nothing.
use mathlib.Core.Bool.{Bool, true, false, cond}
use mathlib.Core.Path.{◌≡◌, refl, ap, ◌∙◌}
use mathlib.Core.List.{List, [], ◌++◌, append_assoc, append-nil}
use Prim.Native.Nat.{ℕ, zero, suc, ◌+◌, ◌-◌, ◌≤◌, ◌<◌}
use native.Mathlib.Omega.{arith}
use lib.Dec.{ltb}
use lib.ListN.{length, length-drop, length-append}
use borrow.Author.Tests.{lt-ltb, le-ltb, ltb-false}
use Rattle.table_rows.specs.Bytes.{Image, be}
use Rattle.machine.specs.State.{State}
use Rattle.machine.specs.Machine.{rules}
use Rattle.machine_rules_kept.specs.Kept.{step_keeps}
use Rattle.state_room.specs.Holds.{Rows, Holds, state_in}
use Rattle.state_room.proofs.Holds.{state_is}
use Rattle.day_records.specs.Records.{Record, call, malformed, cut, over, most_bytes}
use Rattle.day_records.specs.Views.{of_parsed, Parses}
use Rattle.std.specs.Prelude.{Result}
use Rattle.day_records.specs.declared.Malformed.{Malformed}
use Rattle.day_records.specs.declared.Parsed.{Parsed}
use Rattle.byte_writer.specs.Written.{Written}
use Rattle.byte_writer.proofs.WrittenLaws.{written_none, written_then, written_as, written_long, written_room}
use Rattle.day_run.specs.Days.{Next, pending, broken, whole, next_at, bytes_left, body_at, Ran, stopped, ended_at, behind, longest, malformed_line, line_at, state_at, ran_in, ran_on, ran}
use Rattle.day_run.specs.Views.{Kept, Takes, RunOn}

-- ---- what stands at a place

-- so many bytes are there
abbrev reach : Next → ℕ
reach pending = 0
reach broken = 4
reach (whole n) = 4 + n

next_there : (bytes : List ℕ) (i : ℕ) → reach (next_at bytes i) ≤ bytes_left bytes i
unfolding next_at
next_there bytes i = go (ltb (bytes_left bytes i) 4) refl (ltb most_bytes (be 4 bytes i)) (ltb (bytes_left bytes i) (4 + be 4 bytes i)) refl
  where
    go : (a : Bool) → ltb (bytes_left bytes i) 4 ≡ a → (b c : Bool) → ltb (bytes_left bytes i) (4 + be 4 bytes i) ≡ c →
        reach (cond a pending (cond b broken (cond c pending (whole (be 4 bytes i))))) ≤ bytes_left bytes i
    go true e b c f = omega arith
    go false e true c f = ltb-false (bytes_left bytes i) 4 e
    go false e false true f = omega arith
    go false e false false f = ltb-false (bytes_left bytes i) (4 + be 4 bytes i) f

module _ (bytes : List ℕ) (i : ℕ) (h : i ≤ length bytes) where
  pub whole_fits : {m : ℕ} → whole m ≡ next_at bytes i → i + 4 + m ≤ length bytes
  whole_fits w = let r = rw (← w) at (next_there bytes i) in omega (arith, r, length-drop i bytes)

  broken_inside : broken ≡ next_at bytes i → i < length bytes
  broken_inside w = let r = rw (← w) at (next_there bytes i) in omega (arith, r, length-drop i bytes)

-- ---- the run so far: it has turns enough for the bytes that are left

pub record Running (img : Image) (bytes : List ℕ) (first : Rows) (old : List ℕ) (d : Rows) (used written : ℕ) (out : List ℕ) : Type 0 where
  pub state : State
  pub keeps : rules img state ≡ true
  pub holds : Holds img state d
  pub lines : List ℕ
  pub are_written : Written old 0 lines out written
  pub turns : ℕ
  pub enough : length bytes ≤ used + turns
  pub rest : ran img bytes (state_in img first) (length old) ≡ behind lines (ran_in turns img bytes state used (length old - length lines))
  pub inside : used ≤ length bytes

pub state_keeps : (img : Image) (s : State) (r : Record) → rules img s ≡ true → rules img (state_at img s r) ≡ true
state_keeps img s (call c) k = step_keeps img s c k
state_keeps img s malformed k = k
state_keeps img s cut k = k
state_keeps img s over k = k

-- nothing is taken yet
pub running_begins : {img : Image} (bytes old : List ℕ) {d : Rows} → Kept img d → Running img bytes d old d 0 0 old
unfolding ran
running_begins {img} bytes old {d} k =
    record {
      state = state_in img d;
      keeps = k.keeps;
      holds = k.holds;
      lines = [];
      are_written = written_none old 0 (omega arith);
      turns = length bytes;
      enough = omega arith;
      rest = let z : length old - 0 ≡ length old = omega arith in rw z (same_run _);
      inside = omega arith;
    }
  where
    same_run : (r : Ran) → r ≡ behind [] r
    same_run r = refl

module _ {img : Image} {bytes : List ℕ} {first : Rows} {old : List ℕ} {d : Rows} {used written : ℕ} {out : List ℕ} (g : Running img bytes first old d used written out) where
  abbrev whole_run : Ran
  whole_run = ran img bytes (state_in img first) (length old)

  pub same_long : length out ≡ length old
  same_long = written_long g.are_written

  pub room_left : written ≤ length out
  room_left = written_room g.are_written

  -- how much room is left
  left : length out - written ≡ length old - length g.lines
  left = omega (arith, same_long, g.are_written.end_is)

  abbrev from : ℕ → Ran
  from n = ran_in n img bytes g.state used (length old - length g.lines)

  -- ---- the state that the arrays hold

  view_is : state_in img d ≡ g.state
  view_is = state_is img g.state d g.holds

  pub keeps_on : Kept img d
  keeps_on = record { keeps = rw view_is g.keeps; holds = rw view_is g.holds }

  -- ---- the run stops

  pub stops_room : length out - written < longest → whole_run ≡ behind g.lines (stopped g.state used)
  unfolding ran_in
  stops_room l = g.rest ∙ ap (behind g.lines) (go g.turns)
    where
      go : (n : ℕ) → from n ≡ stopped g.state used
      go zero = refl
      go (suc n) = rw (← left, lt-ltb (length out - written) longest l)

  module _ (l : longest ≤ length out - written) where
    goes : (n : ℕ) → from (suc n) ≡ ran_on img bytes g.state used (length old - length g.lines) (ran_in n img bytes) (next_at bytes used)
    unfolding ran_in
    goes n = let k : longest ≤ length old - length g.lines = rw (← left) l in rw (le-ltb (length old - length g.lines) longest k)

    pub stops_pending : pending ≡ next_at bytes used → whole_run ≡ behind g.lines (stopped g.state used)
    unfolding ran_in
    stops_pending w = g.rest ∙ ap (behind g.lines) (go g.turns)
      where
        go : (n : ℕ) → from n ≡ stopped g.state used
        go zero = refl
        go (suc n) = goes n ∙ rw (← w)

    -- there is a turn for each byte that is left
    turns_on_lem : used < length bytes → whole_run ≡ behind g.lines (ran_on img bytes g.state used (length old - length g.lines) (ran_in (g.turns - 1) img bytes) (next_at bytes used))
    turns_on_lem h =
        let e : g.turns ≡ suc (g.turns - 1) = omega (arith, g.enough) in
        g.rest ∙ ap (behind g.lines) (ap from e ∙ goes (g.turns - 1))

    pub stops_broken : broken ≡ next_at bytes used → whole_run ≡ behind g.lines (ended_at g.state used)
    stops_broken w = turns_on_lem (broken_inside bytes used g.inside w) ∙ rw (← w)

    -- ---- one record more

    module _ {m : ℕ} (w : whole m ≡ next_at bytes used) where
      pub fits : used + 4 + m ≤ length bytes
      fits = whole_fits bytes used g.inside w

      pub runs_on : {parsed : Result Parsed Malformed} {before after : List ℕ} → Parses parsed before after (body_at bytes used m) → {line : List ℕ} {d-end : Rows} {written-end : ℕ} {out-end : List ℕ} →
          ((s : State) → rules img s ≡ true → Holds img s d → Takes img s (of_parsed parsed after) line d-end) → Written out written line out-end written-end → {next : ℕ} → next ≡ used + 4 + m →
          Running img bytes first old d-end next written-end out-end
      runs_on p {line} {d-end} {written-end} {out-end} t x q =
          let r = body_at bytes used m in
          let l₁ = line_at img g.state r in
          let k : Takes img g.state r line d-end = rw p.is at (t g.state g.keeps g.holds) in
          let less : length old - length g.lines - length l₁ ≡ length old - length (g.lines ++ l₁) = rw length-append (omega arith) in
          rw q
          (record {
            state = state_at img g.state r;
            keeps = state_keeps img g.state r g.keeps;
            holds = k.holds;
            lines = g.lines ++ l₁;
            are_written = written_then g.are_written (written_as x k.says);
            turns = g.turns - 1;
            enough = omega (arith, g.enough);
            rest = turns_on_lem (omega (arith, fits)) ∙ (rw (← w, less) (behind_two g.lines l₁ _));
            inside = fits;
          })
        where
          behind_two : (a b : List ℕ) (r : Ran) → behind a (behind b r) ≡ behind (a ++ b) r
          behind_two a b r = rw (append_assoc a b r.lines)

  -- ---- the run ends

  abbrev Ended : ℕ → Bool → List ℕ → Type 0
  Ended wrote closed new = Kept img d × RunOn img whole_run d used wrote closed bytes old new

  pub ends_here : {closed : Bool} → whole_run ≡ behind g.lines (stopped g.state used) → closed ≡ false → Ended written closed out
  ends_here e i = (keeps_on, record { holds = rw e g.holds; used = rw e; inside = g.inside; ended = rw (e, i); lines = rw (e, append-nil g.lines) g.are_written })

  pub ends_broken : whole_run ≡ behind g.lines (ended_at g.state used) → {written-end : ℕ} {out-end : List ℕ} → Written out written malformed_line out-end written-end →
      Ended written-end true out-end
  ends_broken e y = (keeps_on, record { holds = rw e g.holds; used = rw e; inside = g.inside; ended = rw e; lines = rw e (written_then g.are_written y) })
