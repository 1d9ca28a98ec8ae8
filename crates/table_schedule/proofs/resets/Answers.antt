-- `table_schedule::resets` meets its contract. Assumes nothing.
use borrow.Author.Rules.{rules}
use Rattle.table_rows.specs.Kinds as K
use Rattle.table_rows.specs.Lineage.{in_subtree}
use Rattle.table_schedule.specs.Schedule.{resets_of}
use Rattle.table_schedule.proofs.resets.Goals as goal

pub gather-requires-clause-fits : goal.gather-requires-clause-fits
unfolding K.kind_of K.kinds
gather-requires-clause-fits c = search rules

pub returns : goal.returns
unfolding resets_of
returns c = c.gather.ensures (in_subtree c.args.image.now c.args.scope) (λ x r h q. search rules)
