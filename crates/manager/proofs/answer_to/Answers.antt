-- `manager::answer_to` meets its contract: no pop found a ready event. Assumes nothing.
use Rattle.manager.specs.Views.{arrays_of}
use Rattle.manager.proofs.Calls.{answer_is}
use Rattle.manager.proofs.answer_to.Goals as goal

pub returns : goal.returns
returns c =
    answer_is c.args.call c.step_on-c.result.performed c.step_on-c.result.actions (arrays_of c.step_on-c.result.manager) c.requires c.step_on-c.ensures.actions_le_room_for_events.1 c.step_on-c.ensures.result_value
