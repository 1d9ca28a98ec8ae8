-- `day_telling::local_words` meets its contract. Assumes nothing.
use Rattle.day_telling.proofs.Laws.{local_words_are}
use Rattle.day_telling.proofs.local_words.Goals as goal

pub returns : goal.returns
returns c = local_words_are _ _ _ c.scope_at-s.ensures c.to_local.ensures c.words_of-m.ensures.0 c.words_of-m.ensures.1.0 c.words_of-m.ensures.1.1
