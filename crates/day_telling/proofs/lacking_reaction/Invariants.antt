-- `day_telling::lacking_reaction` meets its contract: what is left of the keys decides. Assumes nothing.
use mathlib.Core.Path.{◌≡◌}
use lib.ListN.{drop}
use Rattle.day_telling.specs.Facts.{lacking_reaction}
use Rattle.day_telling.proofs.lacking_reaction.Given as goal

abbrev pub invariant-loop-key : goal.invariant-loop-key
invariant-loop-key l = lacking_reaction l.total l.keys ≡ lacking_reaction l.total (drop l.key-index l.keys)
