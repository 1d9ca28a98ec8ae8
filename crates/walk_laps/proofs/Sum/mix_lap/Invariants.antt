-- `mix_lap` ends: the place rises.
use Rattle.std.proofs.Common.{◌-◌, length}
use Rattle.walk_laps.proofs.Sum.mix_lap.Given as goal

abbrev pub decreases-loop-at : goal.decreases-loop-at
decreases-loop-at l = length l.sets - l.at
