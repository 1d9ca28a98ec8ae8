-- `key_set::KeySet::insert` meets its contract: each word passed has the key's bit, if it is the key's word. Assumes nothing.
use mathlib.Core.Path.{◌≡◌, sym}
use native.Mathlib.Omega.{arith}
use lib.ListN.{length}
use borrow.Author.Rules.{rules}
use Rattle.key_set.specs.Sets.{word_count}
use Rattle.key_set.proofs.Laws.{laid_more, laid_all, length_insert, get_or_insert}
use Rattle.key_set.proofs.KeySet.insert.Goals as goal

pub loop-i-preserved : goal.loop-i-preserved
loop-i-preserved c =
    let l : length c.args.self.words ≡ word_count = search rules in
    laid_more _ _ _ _ _ c.loop-i.invariant (omega arith) (rw c.bit_in.ensures (get_or_insert _ _ _ (omega arith)))

pub returns : goal.returns
returns c =
    let l : length c.args.self.words ≡ word_count = search rules in
    laid_all _ _ _ _ (sym (length_insert _ _)) (omega arith) c.loop-i.invariant
