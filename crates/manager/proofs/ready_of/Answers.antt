-- `manager::ready_of` meets its contract: its keys in an array. Assumes nothing.
use Rattle.manager.proofs.Calls.{shown_is}
use borrow.Author.Rules.{rules}
use mathlib.Core.Path.{◌≡◌}
use lib.ListN.{length}
use Rattle.state_events.specs.Slots.{room_for_events}
use Rattle.manager.proofs.ready_of.Goals as goal

pub returns : goal.returns
returns c =
    let a = c.args in
    let n : length a.actions ≡ room_for_events = search rules in
    shown_is a.tag a.g _ (search rules) n (rw n at c.only_first.ensures)
