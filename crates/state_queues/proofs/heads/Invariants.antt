-- `state_queues::heads` meets its contract: from the last event to the first, one entry is rewritten for each. Assumes nothing.
use Prim.Native.Nat.{◌≤◌}
use lib.ListN.{take, drop}
use Rattle.state_events.specs.Slots.{events_of}
use Rattle.state_queues.specs.Queue.{Held, heads_of}
use Rattle.state_queues.proofs.heads.Given as goal

abbrev pub invariant-loop-i : goal.invariant-loop-i
invariant-loop-i l = (l.i ≤ l.n) × Held l.out (heads_of (drop l.i (take l.n (events_of l.rows))))
