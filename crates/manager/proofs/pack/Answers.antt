-- `manager::pack` meets its contract: each array. Assumes nothing.
use Rattle.manager.proofs.Front.{joined_back}
use Rattle.manager.proofs.pack.Goals as goal

pub returns : goal.returns
returns c =
    rw (c.clocks_of-clocks.ensures, c.active_of-active.ensures, c.ever_of-ever.ensures, joined_back _, c.slots_of-slots.ensures, c.store_of.ensures)
