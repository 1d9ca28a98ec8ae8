-- The computed history is told of every run, and no other is. Assumes the accepted table.
use Rattle.std.specs.Prelude.{true, ◌≡◌}
use Rattle.std.proofs.Common.{subst}
use mathlib.Core.List.{List}
use Rattle.table_rows.specs.Bytes.{Image}
use Rattle.table.specs.Check.{is_table}
use Rattle.machine.specs.Machine.{Call}
use Rattle.machine_history.specs.History.{Told}
use Rattle.machine_history.proofs.Fates.{fates}
use Rattle.machine_history.specs.One.{told_is, TheHistory}

-- so it is for every run of calls from a fresh manager over an accepted table
pub the_history : (img : Image) → is_table img ≡ true → (cs : List Call) → TheHistory img cs
the_history img table cs = let f = fates img table cs in record { told = subst (Told img cs) (told_is img cs f.0 f.1) f.1; only = told_is img cs }
