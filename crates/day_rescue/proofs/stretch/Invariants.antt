-- `day_rescue::stretch` meets its contract. Assumes nothing.
use Prim.Native.Nat.{◌-◌}
use Rattle.day_rescue.specs.Places.{Stretched}
use Rattle.day_rescue.proofs.stretch.Given as goal

abbrev pub invariant-loop-at : goal.invariant-loop-at
invariant-loop-at l = Stretched l.bytes l.end l.from l.at l.records

abbrev pub decreases-loop-at : goal.decreases-loop-at
decreases-loop-at l = l.end - l.at
