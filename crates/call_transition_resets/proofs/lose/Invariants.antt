-- `call_transition_resets::lose` meets its contract: those of the first i that stay lie over the front. Assumes nothing.
use Rattle.std.proofs.Common.{◌≡◌, Bool, ◌≤◌}
use Rattle.lists.specs.Loops.{Compacted}
use Rattle.store_words.specs.Entries.{room_for_entries}
use Rattle.store.specs.Layout.{WholeIn}
use Rattle.call_transition_resets.proofs.lose.Given as goal

abbrev pub invariant-loop-i : goal.invariant-loop-i
invariant-loop-i g l =
    let e = g.E.Entry in
    let y = e.layout in
    (l.w ≤ l.i) × WholeIn y (e.words l.rows)
    × ((test : e.Thing → Bool) → ((x : _) (b : Bool) → goal.F-post g l.fn.goes x b → b ≡ test (e.of x)) →
    Compacted y.decode y.encode y.words room_for_entries y.long test (e.words l.initial.rows) l.i l.w (e.words l.rows))
