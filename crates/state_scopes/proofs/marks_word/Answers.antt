-- `state_scopes::marks_word` meets its contract. Assumes nothing.
use Rattle.state_scopes.specs.Scopes.{marks_word}
use Rattle.state_scopes.proofs.ScopeLaws.{bit_is}
use Rattle.state_scopes.proofs.marks_word.Goals as goal

pub returns : goal.returns
unfolding marks_word
returns c = rw (c.from.ensures, c.from-2.ensures, c.from-3.ensures) (simp bit_is)
