-- `table_schedule::triggers` meets its contract. Assumes nothing.
use borrow.Author.Rules.{rules}
use lib.Dec.{eqb}
use Rattle.table_rows.specs.Kinds as K
use Rattle.table_schedule.specs.Schedule.{triggers_of}
use Rattle.table_schedule.proofs.triggers.Goals as goal

pub gather-requires-clause-fits : goal.gather-requires-clause-fits
unfolding K.kind_of K.kinds
gather-requires-clause-fits c = search rules

pub returns : goal.returns
unfolding triggers_of
returns c = c.gather.ensures (λ x. eqb x c.args.action) (λ x r h q. search rules)
