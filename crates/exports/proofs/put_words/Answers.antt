-- Each number stands behind those before it.
use Rattle.std.proofs.Common.{refl}
use Rattle.exports.proofs.ToldLaws.{words_none, words_on, words_all}
use Rattle.exports.proofs.put_words.Goals as goal

pub loop-word-init : goal.loop-word-init
loop-word-init c = words_none _ _ c.args.words.now c.requires

pub loop-word-preserved : goal.loop-word-preserved
loop-word-preserved c = words_on c.args.words.now c.loop-word.word-index c.loop-word.invariant c.loop-word-test.true refl c.put_number-end.ensures

pub returns : goal.returns
returns c = words_all c.args.words.now c.loop-word.word-index c.loop-word.invariant c.loop-word-test.false
