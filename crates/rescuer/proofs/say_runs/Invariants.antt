-- `say_runs` is safe: each line lies within the buffer.
use Rattle.std.proofs.Common.{◌≤◌}
use Rattle.rescuer.proofs.say_runs.Given as goal

abbrev pub invariant-loop-run : goal.invariant-loop-run
invariant-loop-run g l =
    (goal.iterator-loop-run g).can_next l.run-iterator ×
    (goal.iterator-loop-run g).is_finite l.run-iterator × (l.end ≤ 65536)
