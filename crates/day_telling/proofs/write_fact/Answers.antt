-- `day_telling::write_fact` meets its contract. Assumes nothing.
use Rattle.day_telling.proofs.Laws.{written_fact}
use Rattle.day_telling.proofs.write_fact.Goals as goal

pub returns : goal.returns
returns c =
    written_fact _ _ c.write_text-named.ensures c.write_words-end.ensures c.put.ensures
