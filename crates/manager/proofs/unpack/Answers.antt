-- `manager::unpack` meets its contract: each array. Assumes nothing.
use Rattle.manager.proofs.Packs.{unpacks}
use borrow.Author.Rules.{rules}
use mathlib.Core.Path.{◌≡◌}
use lib.ListN.{length}
use Rattle.state_room.specs.PartRows.{most_reactors}
use Rattle.manager.proofs.unpack.Goals as goal

pub returns : goal.returns
returns c =
    let a = c.args in
    let n : length a.m.now.modes ≡ most_reactors = search rules in
    unpacks a.image.now a.m.now _ _ _ _ _ c.lay_scopes.ensures.clocks_len.0 c.lay_scopes.ensures.clocks_len.1 c.lay_scopes.ensures.clocks_len.2 n c.lay_slots.ensures.slots_len c.lay_entries.ensures.entries_len c.lay_entries-2.ensures.entries_len c.count-reactors_there.ensures c.count-scopes_there.ensures (rw n at c.only_first.ensures) c.lay_scopes.ensures.scoped c.lay_slots.ensures.held c.lay_entries.ensures.held c.lay_entries-2.ensures.held
