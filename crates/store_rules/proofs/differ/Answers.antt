-- `store_rules::differ` meets its contract: invariant: those from i on differ, and their slots are marked. Assumes nothing.
use mathlib.Core.Bool.{true, not}
use mathlib.Core.Path.{◌≡◌}
use Prim.Native.Nat.{◌+◌, ◌-◌}
use native.Mathlib.Omega.{arith}
use lib.ListN.{take, drop}
use Rattle.lists.specs.Lists.{any}
use Rattle.lists.specs.Marks.{marked_none, differ_none}
use Rattle.store.specs.Layout.{things_in}
use Rattle.store_rules.proofs.Laws.{alone, unmarked, mark_more, differ_more, differ_less}
use borrow.Author.Rules.{rules}
use Rattle.store_rules.proofs.differ.Goals as goal
use Rattle.store_rules.proofs.differ.Goals.{else-seen-h-via-then-seen-h+else-find_from-n, else-seen-h-via-else-seen-h}

pub loop-i-init : goal.loop-i-init
loop-i-init g c = (search rules, search rules, (g.met.E.Slotted.by_key, search marked_none), search differ_none)

pub loop-i-preserved : goal.loop-i-preserved
loop-i-preserved g c =
    let e = g.E.Entry in
    let inv = c.loop-i.invariant in
    let s = inv.2.0 in
    let i = c.loop-i.i in
    let ws = e.words c.args.rows.now in
    let one = c.at-e.result in
    let back : i - 1 + 1 ≡ i = omega arith in
    let new : true ≡ not (any (λ x. e.own x (e.of one)) (drop i (take c.args.n (things_in e.layout ws)))) =
    elim c.else-seen-h.branch [
      | else-seen-h-via-then-seen-h+else-find_from-n w ↦ alone e.of e.own g.E.Slotted.slot s e.layout ws c.args.n i one inv.0 c.requires (rw (back, w.key.ensures) at w.find_from.ensures) w.if-find_from-n.false
      | else-seen-h-via-else-seen-h w ↦ unmarked e.of e.own g.E.Slotted.slot s e.layout ws c.args.n i one inv.0 c.requires c.loop-i.seen c.slot-h.ensures.0 inv.2.1 w.if-seen-h.false
    ] in (
      omega arith,
      search rules,
      (s, mark_more e.of e.own g.E.Slotted.slot s e.layout ws c.args.n i one inv.0 c.requires c.loop-i-test.true c.at-e.ensures c.loop-i.seen c.slot-h.ensures.0 c.slot-h.ensures.1 inv.1 inv.2.1),
      differ_more e.of e.own g.E.Slotted.slot s e.layout ws c.args.n i one inv.0 c.requires c.loop-i-test.true c.at-e.ensures new inv.3,
    )

pub returns-then-find_from-n : goal.returns-then-find_from-n
returns-then-find_from-n g c =
    let e = g.E.Entry in
    let inv = c.loop-i.invariant in
    let i = c.loop-i.i in
    let back : i - 1 + 1 ≡ i = omega arith in
    differ_less e.of e.own g.E.Slotted.slot inv.2.0 e.layout (e.words c.args.rows.now) c.args.n i c.at-e.result inv.0 c.requires c.loop-i-test.true c.at-e.ensures
    (rw (back, c.key.ensures) at c.find_from.ensures)
    c.if-find_from-n.true
