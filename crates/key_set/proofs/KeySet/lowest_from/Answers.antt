-- `key_set::KeySet::lowest_from` meets its contract: the keys from k on are those from `at` on, which no word before i has, as long as none was met.
-- Assumes nothing.
use mathlib.Core.Path.{◌≡◌}
use native.Mathlib.Omega.{arith}
use lib.ListN.{length, get_or}
use borrow.Author.Rules.{rules}
use mir.Val.{Fits}
use mir.Syntax.{w64}
use Rattle.key_set.specs.Sets.{word_count}
use Rattle.key_set.proofs.Laws.{found_none}
use Rattle.key_set.proofs.Counts.{found_word, passed_word}
use Rattle.key_set.proofs.KeySet.lowest_from.Goals as goal
use Rattle.key_set.proofs.KeySet.lowest_from.Goals.{then-at-end+else-rest-ne0, else-at-end}

pub returns-then-rest-ne0 : goal.returns-then-rest-ne0
returns-then-rest-ne0 c =
    let v = c.loop-i.invariant in
    let l : length c.args.self.words ≡ word_count = search rules in
    let f : Fits w64 (get_or c.args.self.words c.loop-i.i 0) = search rules in
    found_word _ _ _ _ v.1 v.0 c.if-at-end.true (omega arith) f.fits c.if-rest-ne0.true

pub loop-i-preserved : goal.loop-i-preserved
loop-i-preserved c =
    let v = c.loop-i.invariant in
    let l : length c.args.self.words ≡ word_count = search rules in
    elim c.if-at-end.branch [
      | then-at-end+else-rest-ne0 w ↦
          rw w.at-is (omega arith, passed_word _ _ _ _ v.1 v.0 w.if-at-end.true (omega arith) w.if-rest-ne0.false)
      | else-at-end w ↦ rw w.at-is (w.if-at-end.false, v.1)
    ]

pub returns : goal.returns
returns c =
    let l : length c.args.self.words ≡ word_count = search rules in
    found_none _ _ _ c.loop-i.invariant.1 (omega (arith, c.loop-i.invariant.0))
