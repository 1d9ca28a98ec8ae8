-- `value_store::entries` meets its contract: invariant: the first i entries are those of the rows. Assumes nothing.
use mathlib.Core.Path.{refl}
use Rattle.lists.specs.Loops.{things_more, things_all}
use Rattle.store_words.specs.Entries.{room_for_entries}
use borrow.Author.Rules.{rules}
use native.Mathlib.Omega.{arith}
use Rattle.value_store.proofs.entries.Goals as goal

pub loop-i-init : goal.loop-i-init
loop-i-init g c = (omega arith, search rules, refl)

pub loop-i-preserved : goal.loop-i-preserved
loop-i-preserved g c =
    let e = g.E.Entry in
    let y = e.layout in
    let inv = c.loop-i.invariant in (
      omega arith,
      search rules,
      things_more y.decode y.encode y.words room_for_entries y.long e.of c.loop-i.e-items inv.1 c.loop-i.i _ c.at.result y.blank c.loop-i-test.true inv.2 c.at.ensures,
    )

pub returns : goal.returns
returns g c =
    let e = g.E.Entry in
    let y = e.layout in
    let inv = c.loop-i.invariant in
    things_all y.decode y.encode y.words room_for_entries y.long e.of c.loop-i.e-items inv.1 c.loop-i.i _ c.loop-i-test.false inv.2
