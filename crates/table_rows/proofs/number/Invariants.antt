-- `table_rows::number` meets its contract: with each byte the number is one byte wider. Assumes nothing.
use Prim.Native.Nat.{◌<◌, ◌^◌}
use mathlib.Core.Path.{◌≡◌}
use Rattle.table_rows.specs.Bytes.{be}
use Rattle.table_rows.proofs.number.Given as goal

abbrev pub invariant-loop-k : goal.invariant-loop-k
invariant-loop-k l = (l.n ≡ be l.k l.image l.at) × (l.n < 256 ^ l.k)
