-- `rescue_records` is safe: what is read, written and listed lies within the buffers.
use Rattle.std.proofs.Common.{◌≤◌}
use Rattle.rescuer.proofs.rescue_records.Given as goal

abbrev pub invariant-loop : goal.invariant-loop
invariant-loop g l = (l.from ≤ l.total) × (l.total ≤ 65536)
