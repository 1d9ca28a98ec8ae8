-- `day_records::read_keys` meets its contract: one key more a turn, over the front of the array. Assumes nothing.
use native.Mathlib.Omega.{arith}
use Rattle.day_records.proofs.Laws.{keys_none, keys_more, keys_all, fill_few, fill_long}
use Rattle.day_records.proofs.read_keys.Goals as goal

pub two_there-count-requires : goal.two_there-count-requires
two_there-count-requires c = omega (arith, fill_long _ _ c.requires.1)

pub loop-k-init : goal.loop-k-init
loop-k-init c = keys_none _ _

pub overflow_add-at : goal.overflow_add-at
overflow_add-at c = omega (arith, fill_long _ _ c.requires.1)

pub overflow_add-at-in-loop-k : goal.overflow_add-at-in-loop-k
overflow_add-at-in-loop-k c = omega (arith, fill_long _ _ c.requires.1)

pub two_there-requires : goal.two_there-requires
two_there-requires c = omega (arith, fill_long _ _ c.requires.1, c.two_there-count.ensures)

pub bounds-keys-k : goal.bounds-keys-k
bounds-keys-k c = omega (arith, fill_few _ _ c.two_there-count.ensures c.requires.1)

pub loop-k-preserved : goal.loop-k-preserved
loop-k-preserved c =
    keys_more _ _ _ (omega (arith, fill_few _ _ c.two_there-count.ensures c.requires.1, c.requires.0)) c.loop-k.invariant c.two_there.ensures

pub returns : goal.returns
returns c =
    let few = fill_few _ _ c.two_there-count.ensures c.requires.1 in
    keys_all _ _ _ _ _ _ c.two_there-count.ensures few (omega arith) (omega arith) (rw c.requires.0 few) c.loop-k.invariant
