-- `value_store::entries` meets its contract: invariant: the first i entries are those of the rows. Assumes nothing.
use mathlib.Core.Path.{◌≡◌}
use mathlib.Core.List.{map}
use Prim.Native.Nat.{◌≤◌}
use lib.ListN.{take, length}
use Rattle.store_words.specs.Entries.{room_for_entries}
use Rattle.store.specs.Layout.{things_in}
use Rattle.value_store.proofs.entries.Given as goal

abbrev pub invariant-loop-i : goal.invariant-loop-i
invariant-loop-i g l =
    let e = g.E.Entry in
    (l.i ≤ room_for_entries) × (length l.e-items ≡ room_for_entries) × (take l.i (map e.of l.e-items) ≡ take l.i (things_in e.layout (e.words l.rows)))
