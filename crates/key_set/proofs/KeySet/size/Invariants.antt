-- `key_set::KeySet::size` meets its contract: the ones counted and the keys of the words from i on are as many as the set has. Assumes nothing.
use mathlib.Core.Path.{◌≡◌}
use Prim.Native.Nat.{◌+◌, ◌*◌}
use lib.ListN.{length}
use Rattle.key_set.specs.Sets.{keys_from, size_of}
use Rattle.key_set.proofs.KeySet.size.Given as goal

abbrev pub invariant-loop-w : goal.invariant-loop-w
invariant-loop-w l = l.n + length (keys_from l.fn.self.words (l.w-index * 64)) ≡ size_of l.fn.self.words
