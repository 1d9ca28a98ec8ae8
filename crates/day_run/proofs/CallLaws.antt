-- A record's call on the rows is the machine's step: its line, and the rows hold the new state. Assumes nothing.
use mathlib.Core.Bool.{true}
use mathlib.Core.Path.{◌≡◌, refl, ap, ◌∙◌, sym, subst}
use mathlib.Core.List.{List}
use Prim.Native.Nat.{ℕ}
use lib.ListN.{take}
use Rattle.table_rows.specs.Bytes.{Image}
use Rattle.machine.specs.State.{State}
use Rattle.machine.specs.Machine.{Reply, rules}
use Rattle.machine_rules_kept.specs.Kept.{step_performs}
use Rattle.state_room.specs.Holds.{Rows, Holds, Performs}
use Rattle.call_perform.specs.Calls.{call_of}
use Rattle.call_perform.specs.declared.Call.{Call}
use Rattle.day_records.specs.Records as R
use Rattle.day_records.specs.Records.{Record}
use Rattle.day_records.specs.Views.{of_parsed, key_count}
use Rattle.std.specs.Prelude.{Ok, Err}
use Rattle.day_records.specs.declared.Malformed.{Malformed}
use Rattle.day_records.specs.declared.Parsed.{Parsed}
use Rattle.day_records.specs.declared.Parsed.TheVariants.{Plain, Network, Control, Action, Transition, Pop}
use Rattle.day_lines.specs.Lines.{line_of}
use Rattle.day_run.specs.Days.{malformed_line}
use Rattle.day_run.specs.Views.{Takes}
use Rattle.day_run.specs.Views.{call_of as of_call}

-- ---- what a record asks for

pub asks : (parsed : Parsed) (keys : List ℕ) → of_parsed (Ok parsed) keys ≡ R.call (call_of (of_call parsed) (take (key_count (Ok parsed)) keys))
asks (Plain t terminal n) keys = refl
asks (Network t n) keys = refl
asks (Control t) keys = refl
asks (Action a t terminal n) keys = refl
asks (Transition r m reset t) keys = refl
asks Pop keys = refl

-- ---- its line, and the state after it

module _ (img : Image) (s : State) (k : rules img s ≡ true) (d : Rows) (u : Holds img s d) (keys : List ℕ) where
  pub call_takes : (parsed : Parsed) {n : ℕ} → n ≡ key_count (Ok parsed) → {c : Call} → c ≡ of_call parsed → {reply : Reply} {after : Rows}
      → Performs img (call_of c (take n keys)) d reply after → Takes img s (of_parsed (Ok parsed) keys) (line_of img reply) after
  call_takes parsed {n} f {c} g {reply} {after} p =
      let call = call_of (of_call parsed) (take (key_count (Ok parsed)) keys) in
      let x = (rw (f, g) at p) s u in
      let o = sym (step_performs img s call k) in
      subst (λ x. Takes img s x (line_of img reply) after) (sym (asks parsed keys))
      (record { says = ap (line_of img) (x.reply_is ∙ ap (λ x. x.reply) o); holds = subst (λ x. Holds img x.state after) o x.holds })

  pub malformed_takes : {e : Malformed} → Takes img s (of_parsed (Err e) keys) malformed_line d
  malformed_takes = record { says = refl; holds = u }
