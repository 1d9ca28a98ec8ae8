-- `run` is safe: what was read lies within its buffer, and each turn leaves a day that keeps the rules.
use Rattle.std.proofs.Common.{◌≤◌}
use Rattle.state_room.specs.Holds.{rows_of}
use Rattle.day_run.specs.Views.{Kept}
use Rattle.bench.proofs.run.Given as goal

abbrev pub invariant-loop : goal.invariant-loop
invariant-loop g l = Kept l.image (rows_of l.day) × (l.filled ≤ 65536)
