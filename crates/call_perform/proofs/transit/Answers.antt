-- `call_perform::transit` meets its contract: no more wait after it than may. Assumes nothing.
use Rattle.call_perform.proofs.CallLaws.{few_after}
use Rattle.call_perform.proofs.transit.Goals as goal

pub heads-requires : goal.heads-requires
heads-requires c = few_after c.requires.kept _ _ c.apply_transition-outcome.ensures
