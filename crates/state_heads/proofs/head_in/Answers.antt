-- `state_heads::head_in` meets its contract. Assumes nothing.
use borrow.Author.Rules.{rules}
use Rattle.state_heads.proofs.HeadsLaws.{in_nothing, in_at}
use Rattle.state_heads.proofs.head_in.Goals as goal

pub returns-in_err-t : goal.returns-in_err-t
returns-in_err-t c = search (rules, in_nothing)

pub returns : goal.returns
returns c = search (rules, in_at)
