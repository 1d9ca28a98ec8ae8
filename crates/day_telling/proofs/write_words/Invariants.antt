-- `day_telling::write_words` meets its contract: one number more a turn. Assumes nothing.
use lib.ListN.{take}
use Rattle.byte_writer.specs.Written.{Written}
use Rattle.day_telling.specs.Facts.{words_text}
use Rattle.day_telling.proofs.write_words.Given as goal

abbrev pub invariant-loop-word : goal.invariant-loop-word
invariant-loop-word l = Written l.initial.buffer l.at (words_text (take l.word-index l.words)) l.buffer l.end
