-- `value_store::lay` meets its contract: invariant: the first i rows hold the first i entries. Assumes nothing.
use mathlib.Core.Path.{refl}
use Rattle.lists.specs.Loops.{rows_more, rows_all}
use Rattle.store_words.specs.Entries.{room_for_entries}
use native.Mathlib.Omega.{arith}
use Rattle.value_store.proofs.lay.Goals as goal

pub loop-i-init : goal.loop-i-init
loop-i-init g c = (omega arith, c.requires, refl)

pub loop-i-preserved : goal.loop-i-preserved
loop-i-preserved g c =
    let e = g.E.Entry in
    let y = e.layout in
    let inv = c.loop-i.invariant in
    let one = c.index-entries-i in (
      omega arith,
      c.put.ensures.whole,
      rows_more y.decode y.encode y.words room_for_entries y.long e.of c.args.entries.now c.told-entries c.loop-i.i _ _ one.result c.loop-i-test.true inv.2 c.put.ensures,
    )

pub returns : goal.returns
returns g c =
    let e = g.E.Entry in
    let y = e.layout in
    let inv = c.loop-i.invariant in
    rows_all y.decode y.encode y.words room_for_entries y.long e.of c.args.entries.now c.told-entries _ _ inv.1 c.loop-i-test.false inv.2
