-- `day_telling::place_words` meets its contract. Assumes nothing.
use Rattle.day_telling.proofs.Laws.{place_root, place_scope}
use mathlib.Core.Path.{ap, ◌∙◌}
use Rattle.day_telling.specs.Facts.{scope_place, place_words}
use Rattle.day_telling.proofs.place_words.Goals as goal

pub returns-then-queue-eq-NONE : goal.returns-then-queue-eq-NONE
returns-then-queue-eq-NONE c = place_root _ _ _ c.if-queue-eq-NONE.true ∙ ap (place_words _ _) c.as_global-g.ensures

pub returns : goal.returns
returns c = place_scope _ _ _ c.if-queue-eq-NONE.false c.scope_at-s.ensures (c.scope_place.ensures ∙ ap (scope_place _ _) c.as_local.ensures)
