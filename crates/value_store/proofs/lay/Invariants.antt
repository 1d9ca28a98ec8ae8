-- `value_store::lay` meets its contract: invariant: the first i rows hold the first i entries. Assumes nothing.
use mathlib.Core.Path.{◌≡◌}
use mathlib.Core.List.{map}
use Prim.Native.Nat.{◌≤◌}
use lib.ListN.{take}
use Rattle.store_words.specs.Entries.{room_for_entries}
use Rattle.store.specs.Layout.{things_in, WholeIn}
use Rattle.value_store.proofs.lay.Given as goal

abbrev pub invariant-loop-i : goal.invariant-loop-i
invariant-loop-i g l =
    let e = g.E.Entry in
    (l.i ≤ room_for_entries) × (WholeIn e.layout (e.words l.rows)) × (take l.i (things_in e.layout (e.words l.rows)) ≡ take l.i (map e.of l.entries))
