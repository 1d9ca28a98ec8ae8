use Rattle.std.proofs.Common.{take}
use Rattle.byte_writer.specs.Written.{Written}
use Rattle.exports.specs.Told.{word_bytes}
use Rattle.exports.proofs.put_words.Given as goal

abbrev pub invariant-loop-word : goal.invariant-loop-word
invariant-loop-word l = Written l.initial.bytes l.initial.end (word_bytes (take l.word-index l.words)) l.bytes l.end
