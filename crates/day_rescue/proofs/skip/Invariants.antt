-- `day_rescue::skip` meets its contract. Assumes nothing.
use Prim.Native.Nat.{◌-◌}
use Rattle.day_rescue.specs.Places.{Passed}
use Rattle.day_rescue.proofs.skip.Given as goal

abbrev pub invariant-loop-at : goal.invariant-loop-at
invariant-loop-at l = Passed l.bytes l.from l.at

abbrev pub decreases-loop-at : goal.decreases-loop-at
decreases-loop-at l = l.stop - l.at
