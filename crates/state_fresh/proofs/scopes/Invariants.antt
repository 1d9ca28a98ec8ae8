-- `state_fresh::scopes` meets its contract: the scopes before i stand. Assumes nothing.
use Prim.Native.Nat.{◌≤◌}
use mathlib.Core.Path.{◌≡◌}
use mathlib.Core.List.{map}
use Rattle.lists.specs.Lists.{from}
use Rattle.table_schedule.specs.Schedule.{is_active}
use Rattle.machine.specs.Table.{scopes}
use Rattle.state_room.specs.PartRows.{Scoped}
use Rattle.machine.specs.State.{fresh_scope}
use Rattle.state_fresh.proofs.scopes.Given as goal

abbrev pub invariant-loop-i : goal.invariant-loop-i
invariant-loop-i l = (l.i ≤ l.n) × (l.n ≡ scopes l.image) × Scoped (map (λ k. fresh_scope (is_active l.image l.modes k)) (from 0 l.i)) l.out
