-- `day_rescue::rescue_piece` meets its contract: from turn to turn. Assumes nothing.
use Prim.Native.Nat.{◌-◌, ◌≤◌}
use lib.ListN.{length}
use Rattle.day_rescue.proofs.PieceLaws.{Room, Walked}
use Rattle.day_rescue.proofs.rescue_piece.Given as goal

abbrev pub invariant-loop-at : goal.invariant-loop-at
invariant-loop-at l = Room l.bytes l.initial.run l.initial.out l.initial.list × (l.end ≤ length l.bytes) × Walked l.bytes l.end l.initial.run l.initial.out l.initial.list l.out l.list l.at l.written l.listed l.records l.run.place l.run.length

abbrev pub decreases-loop-at : goal.decreases-loop-at
decreases-loop-at l = l.end - l.at
