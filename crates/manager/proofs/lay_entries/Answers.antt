-- `manager::lay_entries` meets its contract: the first i entries, and blanks behind them. Assumes nothing.
use native.Mathlib.Omega.{arith}
use Prim.Native.Nat.{◌≤◌}
use Rattle.manager.proofs.Front.{rows_none, rows_next, rows_all}
use mathlib.Core.List.{map}
use Rattle.store_words.specs.Entries.{room_for_entries}
use Rattle.manager.proofs.lay_entries.Goals as goal

pub loop-i-init : goal.loop-i-init
loop-i-init g c =
    let y = g.E.Entry.layout in
    rows_none y.decode y.encode y.words room_for_entries y.long y.blank (map g.E.Entry.of c.args.entries.now) _ c.requires

pub loop-i-preserved : goal.loop-i-preserved
loop-i-preserved g c =
    let y = g.E.Entry.layout in
    let h : c.min-i-end.result ≤ 256 = omega (arith, c.min-i-end.ensures) in
    let one = c.index-entries-i in
    rows_next y.decode y.encode y.words room_for_entries y.long y.blank g.E.Entry.of c.args.entries.now c.told-entries c.loop-i.i c.min-i-end.result one.result _ _ c.loop-i-test.true h
    c.loop-i.invariant c.put.ensures

pub returns : goal.returns
returns g c =
    let y = g.E.Entry.layout in
    let e = g.E.Entry.of in
    record {
      held = rows_all y.decode y.encode y.words room_for_entries y.long y.blank e c.args.entries.now c.told-entries _ c.loop-i.i c.args.n c.min-i-end.result c.loop-i.auto.i-end c.loop-i-test.false c.min-i-end.ensures c.loop-i.invariant;
      entries_len = c.told-entries;
    }
