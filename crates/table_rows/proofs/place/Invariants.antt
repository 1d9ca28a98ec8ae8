-- `table_rows::place` meets its contract: with each kind the place is one kind further. Assumes nothing.
use Prim.Native.Nat.{◌+◌, ◌*◌, ◌^◌, ◌≤◌}
use mathlib.Core.Path.{◌≡◌}
use Rattle.table_rows.specs.Kinds.{head_bytes, widest, place}
use Rattle.table_rows.proofs.place.Given as goal

abbrev pub invariant-loop-j : goal.invariant-loop-j
invariant-loop-j l = (l.at ≡ place l.image l.j) × (l.at ≤ head_bytes + l.j * (2 ^ 16 * widest))
