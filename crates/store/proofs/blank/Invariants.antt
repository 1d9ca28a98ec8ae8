-- `store::blank` meets its contract: invariant: blanks up to i. Assumes nothing.
use Prim.Native.Nat.{◌≤◌}
use lib.ListN.{take}
use Rattle.lists.specs.Lay.{lay}
use Rattle.store.specs.Layout.{things_in, HeldIn}
use Rattle.store.proofs.blank.Given as goal

abbrev pub invariant-loop-i : goal.invariant-loop-i
invariant-loop-i g l =
    let e = g.E.Entry in
    let all = things_in e.layout (e.words l.initial.rows) in
    (l.w ≤ l.i) × (l.i ≤ l.n) × HeldIn e.layout (e.words l.rows) (lay e.layout.blank all (take l.w all) l.i)
