-- `call_all` ends: fewer bytes are left after each record, and the keys have their room.
use Rattle.std.proofs.Common.{◌≡◌, length}
use Rattle.manager_laps.proofs.Laps.call_all.Given as goal

abbrev pub decreases-loop-body : goal.decreases-loop-body
decreases-loop-body l = length l.left

abbrev pub invariant-loop-body : goal.invariant-loop-body
invariant-loop-body l = length l.keys ≡ 128
