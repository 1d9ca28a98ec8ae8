-- `store::compact` meets its contract: invariant: those of the first i that stay lie over the front. Assumes nothing.
use Prim.Native.Nat.{◌≤◌}
use Rattle.lists.specs.Loops.{Compacted}
use Rattle.store_words.specs.Entries.{room_for_entries}
use Rattle.store.proofs.compact.Given as goal

abbrev pub invariant-loop-i : goal.invariant-loop-i
invariant-loop-i g l =
    let e = g.E.Entry in
    let y = e.layout in
    (l.w ≤ l.i) × (l.i ≤ l.n) × Compacted y.decode y.encode y.words room_for_entries y.long (e.passes l.which) (e.words l.initial.rows) l.i l.w (e.words l.rows)
