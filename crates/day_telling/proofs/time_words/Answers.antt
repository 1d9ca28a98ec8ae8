-- `day_telling::time_words` meets its contract. Assumes nothing.
use mathlib.Core.Path.{refl}
use Rattle.day_telling.specs.Facts.{time_words}
use Rattle.day_telling.proofs.time_words.Goals as goal

pub returns : goal.returns
unfolding time_words
returns c = refl
