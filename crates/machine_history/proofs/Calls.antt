-- What one call adds to the history, whichever call it is. Assumes the accepted table.
use Rattle.std.specs.Prelude.{ℕ, ◌≡◌, take}
use Rattle.std.proofs.Math.Bool.{true}
use Rattle.std.proofs.Math.Path.{refl}
use mathlib.Core.List.{List}
use Rattle.table_rows.specs.Bytes.{Image}
use Rattle.table.specs.Check.{is_table}
use Rattle.machine.specs.Machine.{Call}
use Rattle.machine_rules_kept.specs.Never.{own_performs}
use Rattle.lists.specs.Each.{Each}
use Rattle.machine_history.specs.History.{History, moment}
use Rattle.machine_history.specs.History.{call_at, Right}
use Rattle.machine_history.specs.History.{in_order}
use Rattle.machine_history.specs.Marks.{now_in}
use Rattle.machine_history.specs.Grown.{bares}
use Rattle.machine_history.specs.Calls.{After, called}

module _ (img : Image) (table : is_table img ≡ true) (cs : List Call) (n : ℕ) (h : History)
    (now : bares (moment img cs n) ≡ now_in h) (each : Each (Right img cs n) h) (order : in_order 0 h ≡ true) where
  pub one_call : After img cs n h
  one_call = called img table cs n h now each order (call_at cs n) refl (own_performs img table (take n cs) (call_at cs n))
