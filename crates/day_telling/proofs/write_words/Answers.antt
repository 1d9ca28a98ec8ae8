-- `day_telling::write_words` meets its contract: one number more a turn. Assumes nothing.
use Rattle.byte_writer.proofs.WrittenLaws.{written_none, written_room, written_long}
use Rattle.day_telling.specs.Facts.{words_text}
use Rattle.day_telling.proofs.Laws.{written_word, words_all}
use Rattle.day_telling.proofs.write_words.Goals as goal

pub loop-word-init : goal.loop-word-init
unfolding words_text
loop-word-init c = written_none _ _ c.requires

pub put-space-requires : goal.put-space-requires
put-space-requires c = written_room c.loop-word.invariant

pub write_decimal-end-requires : goal.write_decimal-end-requires
write_decimal-end-requires c = written_room c.put-space.ensures

pub loop-word-preserved : goal.loop-word-preserved
loop-word-preserved c = written_word _ _ c.loop-word-test.true c.loop-word.invariant c.put-space.ensures c.write_decimal-end.ensures

pub shape_of-buffer : goal.shape_of-buffer
shape_of-buffer c = written_long c.loop-word.invariant

pub returns : goal.returns
returns c = words_all _ _ c.loop-word-test.false c.loop-word.invariant
