-- `key_set::KeySet::union` meets its contract: each word passed holds the keys of both. Assumes nothing.
use mathlib.Core.Path.{◌≡◌, sym, ◌∙◌}
use native.Mathlib.Omega.{arith}
use lib.ListN.{length}
use borrow.Author.Rules.{rules}
use Rattle.key_set.specs.Sets.{word_count}
use Rattle.key_set.proofs.Laws.{laid_more, laid_all, length_union, get_or_union}
use Rattle.key_set.proofs.KeySet.union.Goals as goal

pub loop-i-preserved : goal.loop-i-preserved
loop-i-preserved c =
    let l : length c.args.self.words ≡ word_count = search rules in
    let m : length c.args.other.words ≡ word_count = search rules in
    laid_more _ _ _ _ _ c.loop-i.invariant (omega arith) (get_or_union _ _ (l ∙ sym m) _)

pub returns : goal.returns
returns c =
    let l : length c.args.self.words ≡ word_count = search rules in
    laid_all _ _ _ _ (sym (length_union _ _)) (omega arith) c.loop-i.invariant
