-- `state_queues::compact` meets its contract: those that stay lie over the front, and the ordinary ones that went are counted. Assumes nothing.
use Prim.Native.Nat.{◌≤◌}
use Rattle.state_queues.specs.Queue.{goes_of}
use Rattle.state_queues.proofs.TakeLaws.{Taken}
use Rattle.state_queues.proofs.compact.Given as goal

abbrev pub invariant-loop-i : goal.invariant-loop-i
invariant-loop-i l = (l.i ≤ l.n) × Taken (goes_of l.which) l.initial.rows l.i l.w l.ordinary l.rows
