-- `state_heads::scope_head` meets its contract: the least of the scopes before i, one more a turn. Assumes nothing.
use Rattle.state_scopes.specs.Scopes.{scopes_of}
use Rattle.state_queues.specs.Queue.{leasts_of}
use Rattle.state_heads.proofs.HeadsLaws.{Looked}
use Rattle.state_heads.proofs.scope_head.Given as goal

abbrev pub invariant-loop-i : goal.invariant-loop-i
invariant-loop-i l = Looked (scopes_of l.scopes) (leasts_of l.heads) l.n l.i l.best
