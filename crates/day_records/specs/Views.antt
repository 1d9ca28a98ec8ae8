-- The code's answers as records. Assumes nothing.
use Rattle.std.specs.Prelude.{ℕ, ◌≤◌, ◌<◌, ◌≡◌, true, List, length, take, drop, Result, Option, Ok, Err, Some, None}
use Rattle.table_rows.specs.Bytes.{be}
use Rattle.tags.specs.Views.{of_global}
use Rattle.machine.specs.Machine as M
use Rattle.day_records.specs.Records as R
use Rattle.day_records.specs.Records.{Record, Length, version, most_keys, keys_at, op_of, is_formed}
use Rattle.day_records.specs.declared.Malformed.{Malformed}
use Rattle.day_records.specs.declared.Parsed.{Parsed}
use Rattle.day_records.specs.declared.Parsed.TheVariants.{Plain, Network, Control, Action, Transition, Pop}
use Rattle.day_records.specs.declared.Op.{Op}
use Rattle.day_records.specs.declared.Op.TheVariants as O
use Rattle.day_records.specs.declared.Form.{Form}

-- the record, its reaction keys the first of the array beside it
abbrev pub of_parsed : Result Parsed Malformed → List ℕ → Record
of_parsed (Ok (Plain t terminal n)) keys = R.call (M.plain (of_global t) terminal (take n keys))
of_parsed (Ok (Network t n)) keys = R.call (M.network (of_global t) (take n keys))
of_parsed (Ok (Control t)) keys = R.call (M.control (of_global t))
of_parsed (Ok (Action a t terminal n)) keys = R.call (M.action a (of_global t) terminal (take n keys))
of_parsed (Ok (Transition r m reset t)) keys = R.call (M.transit r m reset (of_global t))
of_parsed (Ok Pop) keys = R.call M.pop
of_parsed (Err e) keys = R.malformed

-- the ops by their numbers, and the numbers that name one
abbrev pub number_of : Op → ℕ
number_of O.Plain = 1
number_of O.Network = 2
number_of O.Control = 3
number_of O.Action = 4
number_of O.Transition = 5
number_of O.Pop = 6

abbrev pub Names : ℕ → Result Op Malformed → Type 0
Names n (Ok op) = n ≡ number_of op
Names n (Err e) = 0 < n → 6 < n

-- a well-formed record, by its op
pub record HasOp (b : List ℕ) (op : Op) : Type 0 where
  pub versioned : be 1 b 0 ≡ version
  pub named : be 1 b 1 ≡ number_of op
  pub formed : is_formed (op_of (number_of op) b) ≡ true

-- the operands of each op, as places: "plain (tag 12, terminal 1, count 2, reactions 2 each)" and so on
abbrev pub form : ℕ → ℕ → ℕ → ℕ → Form
form bit count each fixed = record { bit = bit; count = count; each = each; fixed = fixed }

abbrev pub form_of : Op → Form
form_of O.Plain = form 14 15 2 17
form_of O.Network = form 0 14 2 16
form_of O.Control = form 0 0 0 14
form_of O.Action = form 16 17 2 19
form_of O.Transition = form 6 0 0 19
form_of O.Pop = form 0 0 0 2

-- how many keys it has there
abbrev pub key_count : Result Parsed Malformed → ℕ
key_count (Ok (Plain t terminal n)) = n
key_count (Ok (Network t n)) = n
key_count (Ok (Control t)) = 0
key_count (Ok (Action a t terminal n)) = n
key_count (Ok (Transition r m reset t)) = 0
key_count (Ok Pop) = 0
key_count (Err e) = 0

-- a record parsed: the answer is it, its keys the first of the array, and the rest of that is as it was
pub record Parses (r : Result Parsed Malformed) (before after : List ℕ) (w : Record) : Type 0 where
  pub is : of_parsed r after ≡ w
  pub rest : drop (key_count r) after ≡ drop (key_count r) before
  pub few : key_count r ≤ most_keys
  pub long : length after ≡ length before

-- the n keys behind a count, and the rest of the array as it was
pub record Filled (b : List ℕ) (i n : ℕ) (before after : List ℕ) : Type 0 where
  pub keys : take n after ≡ keys_at b i
  pub rest : drop n after ≡ drop n before
  pub few : n ≤ most_keys
  pub long : length after ≡ length before

abbrev pub of_head : Result (Option ℕ) Malformed → Length
of_head (Ok (Some n)) = R.counts n
of_head (Ok None) = R.missing
of_head (Err e) = R.broken
