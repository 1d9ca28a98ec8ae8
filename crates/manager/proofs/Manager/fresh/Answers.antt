-- `manager::Manager::fresh` meets its contract: a fresh state's rows, or blank ones. Assumes nothing.
use Rattle.manager.proofs.Packs.{fresh_table, fresh_packs, blank_packs}
use borrow.Author.Rules.{rules}
use Rattle.manager.proofs.Manager.fresh.Goals as goal

pub room-requires : goal.room-requires
room-requires c = search fresh_table

pub returns-in-Err : goal.returns-in-Err
returns-in-Err c = record { checked_value = search rules; manager_value = search blank_packs }

pub returns-in-Ok : goal.returns-in-Ok
returns-in-Ok c = record { checked_value = search rules; manager_value = search fresh_packs }
