-- `call_transition_events::firsts` meets its contract. Assumes nothing.
use Rattle.std.proofs.Common.{rules}
use Rattle.call_transition_events.proofs.firsts.Goals as goal

pub returns : goal.returns
returns c = c.scopes_where.ensures _ λ i b e. search rules
