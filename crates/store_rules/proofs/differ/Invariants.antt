-- `store_rules::differ` meets its contract: invariant: those from i on differ, and their slots are marked. Assumes nothing.
use mathlib.Core.Path.{◌≡◌}
use mathlib.Core.Bool.{true}
use Prim.Native.Nat.{◌≤◌}
use lib.ListN.{length, take, drop}
use Rattle.lists.specs.Lists.{distinct}
use Rattle.store.specs.Layout.{things_in}
use Rattle.lists.specs.Marks.{marked}
use Rattle.store_rules.specs.Rules.{slots}
use Rattle.store_rules.specs.Slots.{Slots}
use Rattle.store_rules.proofs.differ.Given as goal

abbrev pub invariant-loop-i : goal.invariant-loop-i
invariant-loop-i g l =
    let e = g.E.Entry in
    let later = drop l.i (take l.n (things_in e.layout (e.words l.rows))) in
    (l.i ≤ l.n) × (length l.seen ≡ slots) × ((s : Slots e.of e.own g.E.Slotted.slot) × (marked s.by l.seen later ≡ true)) × (distinct (λ x y. e.own y x) later ≡ true)
