-- `call_transition_plan::new_modes` meets its contract: the modes of the reactors before i stand. Assumes nothing.
use Rattle.call_transition_plan.proofs.PlanLaws.{filled_none, filled_more}
use Rattle.call_transition_plan.proofs.new_modes.Goals as goal

pub loop-i-init : goal.loop-i-init
loop-i-init c = filled_none _ _ _

pub loop-i-preserved : goal.loop-i-preserved
loop-i-preserved c = filled_more _ _ _ c.loop-i.i _ c.loop-i.invariant c.mode_after.ensures
