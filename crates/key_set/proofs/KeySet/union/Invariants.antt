-- `key_set::KeySet::union` meets its contract: each word passed holds the keys of both. Assumes nothing.
use Rattle.key_set.specs.Sets.{union_of}
use Rattle.key_set.proofs.Laws.{Laid}
use Rattle.key_set.proofs.KeySet.union.Given as goal

abbrev pub invariant-loop-i : goal.invariant-loop-i
invariant-loop-i l = Laid l.initial.w-items (union_of l.initial.w-items l.other.words) l.w-items l.i
