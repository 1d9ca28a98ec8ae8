-- `manager::Manager::pop_next_event` meets its contract: the call, and what it shows. Assumes nothing.
use mathlib.Core.Path.{◌∙◌, ap}
use Rattle.manager.specs.Arrays.{popped}
use Rattle.manager.proofs.Manager.pop_next_event.Goals as goal

pub returns : goal.returns
returns c = c.popped_of.ensures ∙ ap popped c.step_on.ensures.result_value
