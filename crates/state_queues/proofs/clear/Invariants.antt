-- `state_queues::clear` meets its contract: one blank more behind those that stay, a turn. Assumes nothing.
use Prim.Native.Nat.{◌≤◌}
use Rattle.state_queues.proofs.TakeLaws.{Blanked}
use Rattle.state_queues.proofs.clear.Given as goal

abbrev pub invariant-loop-i : goal.invariant-loop-i
invariant-loop-i l = (l.w ≤ l.i) × (l.i ≤ l.n) × Blanked l.initial.rows l.w l.i l.rows
