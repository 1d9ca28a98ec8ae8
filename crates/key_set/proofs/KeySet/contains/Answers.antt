-- `key_set::KeySet::contains` meets its contract: a key beyond the words is in no set. Assumes nothing.
use mathlib.Core.Path.{◌≡◌, refl, sym}
use native.Mathlib.Omega.{arith}
use lib.ListN.{length}
use Prim.Native.Nat.{◌/◌}
use borrow.Author.Rules.{rules}
use borrow.Author.Tests.{le-ltb}
use Rattle.key_set.specs.Sets.{word_count, bit, has}
use Rattle.key_set.proofs.Laws.{has_past}
use Rattle.key_set.proofs.KeySet.contains.Goals as goal

pub returns-then-k-lt-WORDS : goal.returns-then-k-lt-WORDS
unfolding has bit
returns-then-k-lt-WORDS c = refl

pub returns-else-k-lt-WORDS : goal.returns-else-k-lt-WORDS
returns-else-k-lt-WORDS c =
    let l : length c.args.self.words ≡ word_count = search rules in
    rw (le-ltb (c.args.k / 64) word_count (omega arith)) (sym (has_past c.args.self.words c.args.k (omega arith)))
