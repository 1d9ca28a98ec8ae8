-- `key_set::KeySet::insert` meets its contract: each word passed has the key's bit, if it is the key's word. Assumes nothing.
use Rattle.key_set.specs.Sets.{insert_key}
use Rattle.key_set.proofs.Laws.{Laid}
use Rattle.key_set.proofs.KeySet.insert.Given as goal

abbrev pub invariant-loop-i : goal.invariant-loop-i
invariant-loop-i l = Laid l.initial.w-items (insert_key l.initial.w-items l.k) l.w-items l.i
