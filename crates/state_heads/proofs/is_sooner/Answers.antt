-- `state_heads::is_sooner` meets its contract. Assumes nothing.
use borrow.Author.Rules.{rules}
use Rattle.tags.proofs.Orders.{told_earlier}
use Rattle.state_heads.proofs.HeadsLaws.{sooner_is}
use Rattle.state_heads.proofs.is_sooner.Goals as goal

pub returns : goal.returns
returns c = sooner_is c.args.x c.args.best _ (search (rules, told_earlier))
