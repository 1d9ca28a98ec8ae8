-- `state_fresh::modes` meets its contract: the modes of the reactors before i stand. Assumes nothing.
use Prim.Native.Nat.{◌≤◌}
use mathlib.Core.Path.{◌≡◌}
use mathlib.Core.List.{map}
use Rattle.lists.specs.Lists.{from}
use Rattle.table_rows.specs.Rows.{initial_mode}
use Rattle.machine.specs.Table.{reactors}
use Rattle.state_room.specs.Padded.{padded}
use Rattle.state_room.specs.PartRows.{most_reactors}
use Rattle.state_fresh.proofs.modes.Given as goal

abbrev pub invariant-loop-i : goal.invariant-loop-i
invariant-loop-i l = (l.i ≤ l.n) × (l.n ≤ most_reactors) × (l.n ≡ reactors l.image) × (l.out ≡ padded 0 most_reactors (map (initial_mode l.image) (from 0 l.i)))
