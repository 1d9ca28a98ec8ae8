-- `manager::lay_entries` meets its contract: invariant: the first i entries, and blanks behind them. Assumes nothing.
use mathlib.Core.List.{map}
use lib.ListN.{take}
use Rattle.state_room.specs.Padded.{padded}
use Rattle.store_words.specs.Entries.{room_for_entries}
use Rattle.store.specs.Layout.{HeldIn}
use Rattle.manager.proofs.lay_entries.Given as goal

abbrev pub invariant-loop-i : goal.invariant-loop-i
invariant-loop-i g l =
    let e = g.E.Entry in
    HeldIn e.layout (e.words l.rows) (padded e.layout.blank room_for_entries (take l.i (map e.of l.entries)))
