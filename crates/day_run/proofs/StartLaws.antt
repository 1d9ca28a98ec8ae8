-- A fresh day. Assumes nothing.
use mathlib.Core.Bool.{true}
use mathlib.Core.Path.{◌≡◌}
use Rattle.table_rows.specs.Bytes.{Image}
use Rattle.table.specs.Check.{is_table}
use Rattle.machine.specs.State.{fresh}
use Rattle.machine_rules_kept.specs.Kept.{fresh_rules}
use Rattle.state_room.specs.Holds.{Rows, Holds, state_in}
use Rattle.state_room.proofs.Holds.{state_is}
use Rattle.day_run.specs.Views.{Kept}

pub started : (img : Image) (r : Rows) → is_table img ≡ true → Holds img (fresh img) r → Kept img r × (state_in img r ≡ fresh img)
started img r t h =
    let x = state_is img (fresh img) r h in
    (record { keeps = rw x (fresh_rules img t); holds = rw x h }, x)
