-- `run` is safe: each record leaves a day that keeps the rules.
use Rattle.state_room.specs.Holds.{rows_of}
use Rattle.day_run.specs.Views.{Kept}
use Rattle.explained.proofs.run.Given as goal

abbrev pub invariant-loop : goal.invariant-loop
invariant-loop g l = Kept l.image (rows_of l.room)
