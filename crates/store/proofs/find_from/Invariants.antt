-- `store::find_from` meets its contract: invariant: the first that passes from the start on is the first from i on. Assumes nothing.
use mathlib.Core.Path.{◌≡◌}
use Prim.Native.Nat.{◌+◌, ◌≤◌}
use lib.ListN.{take, drop}
use Rattle.lists.specs.Loops.{place}
use Rattle.store.specs.Layout.{things_in}
use Rattle.store.proofs.find_from.Given as goal

abbrev pub invariant-loop-i : goal.invariant-loop-i
invariant-loop-i g l =
    let e = g.E.Entry in
    let p = e.passes l.which in
    let all = take l.n (things_in e.layout (e.words l.rows)) in
    (l.from ≤ l.i) × (l.i ≤ l.n) × (l.from + place p (drop l.from all) ≡ l.i + place p (drop l.i all))
