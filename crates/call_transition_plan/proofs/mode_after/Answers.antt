-- `call_transition_plan::mode_after` meets its contract. Assumes nothing.
use Rattle.call_transition_plan.proofs.PlanLaws.{mode_cases}
use Rattle.call_transition_plan.proofs.mode_after.Goals as goal

pub returns-then-reactor-request : goal.returns-then-reactor-request
returns-then-reactor-request c = search mode_cases

pub returns-then-not-request : goal.returns-then-not-request
returns-then-not-request c = search mode_cases

pub returns-then-under : goal.returns-then-under
returns-then-under c = search mode_cases

pub returns-else-under : goal.returns-else-under
returns-else-under c = search mode_cases
