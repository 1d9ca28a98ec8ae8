-- `day_telling::scope_place` meets its contract. Assumes nothing.
use mathlib.Core.Path.{ap, ◌∙◌}
use Rattle.day_telling.specs.Facts.{found, offset_in, microstep_in}
use Rattle.day_telling.proofs.Laws.{scope_place_is}
use Rattle.day_telling.proofs.scope_place.Goals as goal

pub returns : goal.returns
returns c =
    let m = c.words_of-m.ensures in
    let t = c.tag_of.ensures in
    scope_place_is _ _ _ c.to_global-image.ensures (m.0 ∙ ap found t) (m.1.0 ∙ ap offset_in t) (m.1.1 ∙ ap microstep_in t) c.bit-active.ensures.0
    c.is_held.ensures c.bit-held.ensures.0
