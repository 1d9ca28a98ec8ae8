-- `key_set::KeySet::lowest_from` meets its contract: the keys from k on are those from `at` on, which no word before i has, as long as none was met.
-- Assumes nothing.
use mathlib.Core.Path.{◌≡◌}
use Prim.Native.Nat.{◌*◌, ◌≤◌}
use Rattle.key_set.specs.Sets.{keys_from}
use Rattle.key_set.proofs.KeySet.lowest_from.Given as goal

abbrev pub invariant-loop-i : goal.invariant-loop-i
invariant-loop-i l = (l.i * 64 ≤ l.at) × (keys_from l.fn.self.words l.fn.k ≡ keys_from l.fn.self.words l.at)
