-- `key_set::KeySet::size` meets its contract: the ones counted and the keys of the words from i on are as many as the set has. Assumes nothing.
use mathlib.Core.Path.{◌≡◌}
use native.Mathlib.Omega.{arith}
use lib.ListN.{length, get_or}
use borrow.Author.Rules.{rules}
use mir.Val.{Fits}
use mir.Syntax.{w64}
use Rattle.key_set.specs.Sets.{word_count, size_of}
use Rattle.key_set.proofs.Counts.{counted_word, counted_fit, counted_all}
use Rattle.key_set.proofs.KeySet.size.Goals as goal

pub loop-w-init : goal.loop-w-init
unfolding size_of
loop-w-init c = omega arith

pub overflow_add-n : goal.overflow_add-n
overflow_add-n c =
    let l : length c.args.self.words ≡ word_count = search rules in
    let f : Fits w64 (get_or c.args.self.words c.loop-w.w-index 0) = search rules in
    omega (arith, counted_fit _ _ _ c.loop-w.invariant (omega arith) f.fits)

pub loop-w-preserved : goal.loop-w-preserved
loop-w-preserved c =
    let l : length c.args.self.words ≡ word_count = search rules in
    let f : Fits w64 (get_or c.args.self.words c.loop-w.w-index 0) = search rules in
    counted_word _ _ _ c.loop-w.invariant (omega arith) f.fits

pub returns : goal.returns
returns c =
    let l : length c.args.self.words ≡ word_count = search rules in
    counted_all _ _ _ c.loop-w.invariant (omega arith)
