-- `call_transition_events::some_row` meets its contract: what is left of the rows decides. Assumes nothing.
use Prim.Native.Nat.{◌-◌}
use mathlib.Core.Path.{◌≡◌}
use Rattle.table_rows.specs.Kinds.{count}
use Rattle.lists.specs.Lists.{any, from}
use Rattle.call_transition_events.specs.Starting.{row_in, some_row}
use Rattle.call_transition_events.proofs.some_row.Given as goal

abbrev pub invariant-loop-j : goal.invariant-loop-j
invariant-loop-j l =
    some_row l.fn.image l.fn.kind l.fn.set.words ≡ any (row_in l.fn.image l.fn.kind l.fn.set.words) (from l.j (count l.fn.image l.fn.kind - l.j))
