-- `day_telling::scope_words` meets its contract. Assumes nothing.
use Rattle.day_telling.proofs.Laws.{scope_words_are}
use Rattle.day_telling.proofs.scope_words.Goals as goal

pub returns : goal.returns
returns c =
    scope_words_are _ _ c.scope_at-s.ensures c.bit-active.ensures.0 c.bit-ever.ensures.0 c.bit-allowed.ensures.0
