-- The code's answers as the definitions', and what its parts do. Assumes nothing.
use Rattle.std.specs.Prelude.{Bool, true, ◌≡◌, List, ℕ, ◌≤◌, length, Result, Option, Ok, Err, Some, None}
use Rattle.table_rows.specs.Bytes.{Image}
use Rattle.machine.specs.State.{State}
use Rattle.machine.specs.Machine.{rules}
pub use Rattle.state_room.specs.Holds.{Kept}
use Rattle.state_room.specs.Holds.{Rows, Holds, rows_of}
use Rattle.byte_writer.specs.Written.{Written}
use Rattle.day_lines.specs.Lines.{line_of}
use Rattle.call_push.specs.declared.Push.TheVariants as P
use Rattle.call_perform.specs.Calls.{reply_of}
use Rattle.call_perform.specs.declared.Call.{Call}
use Rattle.call_perform.specs.declared.Call.TheVariants as K
use Rattle.call_perform.specs.declared.Performed.{Performed}
use Rattle.day_records.specs.Records.{Record}
use Rattle.day_records.specs.declared.Malformed.{Malformed}
use Rattle.day_records.specs.declared.Parsed.{Parsed}
use Rattle.day_records.specs.declared.Parsed.TheVariants.{Plain, Network, Control, Action, Transition, Pop}
use Rattle.day_run.specs.Days as D
use Rattle.day_run.specs.declared.Pieces.{Pieces}

abbrev pub of_next : Result (Option ℕ) Malformed → D.Next
of_next (Ok None) = D.pending
of_next (Ok (Some n)) = D.whole n
of_next (Err e) = D.broken

-- what a record asks for
abbrev pub call_of : Parsed → Call
call_of (Plain t terminal n) = K.Push (P.Plain t terminal)
call_of (Network t n) = K.Push (P.Network t)
call_of (Control t) = K.Push (P.Control t)
call_of (Action a t terminal n) = K.Push (P.Action (record { action = a; tag = t; terminal = terminal }))
call_of (Transition r m reset t) = K.Transition (record { reactor = r; mode = m; reset = reset; c = t })
call_of Pop = K.Pop

-- the line of a record that was taken, a pop's action keys in the array; what is malformed has one too
abbrev pub line_from : Image → Result Performed Malformed → List ℕ → List ℕ
line_from img (Ok p) keys = line_of img (reply_of p keys)
line_from img (Err e) keys = D.malformed_line

-- ---- a day's state, in its rows

-- a record is taken: this is its line, and the rows hold the state after it
pub record Takes (img : Image) (s : State) (w : Record) (line : List ℕ) (r : Rows) : Type 0 where
  pub says : line ≡ D.line_at img s w
  pub holds : Holds img (D.state_at img s w) r

-- so from every state that keeps the rules and that the rows held
abbrev pub Taking : Image → Rows → Record → List ℕ → Rows → Type 0
Taking img before w line after = (s : State) → rules img s ≡ true → Holds img s before → Takes img s w line after

-- what a piece's run leaves: the state, how many bytes were taken, whether the run is over, and the lines over the front of the buffer
pub record RunOn (img : Image) (r : D.Ran) (after : Rows) (took wrote : ℕ) (closed : Bool) (bytes old new : List ℕ) : Type 0 where
  pub holds : Holds img r.state after
  pub used : took ≡ r.used
  pub inside : took ≤ length bytes
  pub ended : closed ≡ r.ended
  pub lines : Written old 0 r.lines new wrote

-- by value
abbrev pub Pieced : Image → D.Ran → Pieces → List ℕ → List ℕ → List ℕ → Type 0
Pieced img r p = RunOn img r (rows_of p.day) p.used p.written p.ended
