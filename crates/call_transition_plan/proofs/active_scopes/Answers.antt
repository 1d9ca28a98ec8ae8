-- `call_transition_plan::active_scopes` meets its contract. Assumes nothing.
use Rattle.std.proofs.Common.{rules}
use Rattle.call_transition_plan.proofs.active_scopes.Goals as goal

pub returns : goal.returns
returns c = c.scopes_where.ensures _ λ i b e. search rules
