-- `call_transition::save` meets its contract: each part behind the one before. Assumes nothing.
use Rattle.call_transition.proofs.SavingLaws.{rows_few, saved_is}
use Rattle.call_transition.proofs.save.Goals as goal

pub fronts_of-f-requires : goal.fronts_of-f-requires
fronts_of-f-requires c = rows_few _ _ c.requires.held

pub returns : goal.returns
returns c =
    saved_is c.args.image.now _ c.requires.held c.fronts_of-f.result c.fronts_of-f.ensures.0 c.fronts_of-f.ensures.1 c.args.spare.now c.requires.spare_room_in_bounds
    c.copy.ensures c.copy-2.ensures c.copy-3.ensures c.copy-4.ensures
