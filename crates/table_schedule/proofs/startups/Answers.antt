-- `table_schedule::startups` meets its contract. Assumes nothing.
use borrow.Author.Rules.{rules}
use lib.Dec.{eqb}
use Rattle.table_rows.specs.Kinds as K
use Rattle.table_schedule.specs.Schedule.{startups_of}
use Rattle.table_schedule.proofs.startups.Goals as goal

pub gather-requires-clause-fits : goal.gather-requires-clause-fits
unfolding K.kind_of K.kinds
gather-requires-clause-fits c = search rules

pub returns : goal.returns
unfolding startups_of
returns c = c.gather.ensures (λ x. eqb x c.args.scope) (λ x r h q. search rules)
