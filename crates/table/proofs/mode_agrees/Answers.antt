-- `table::mode_agrees` meets its contract. Assumes nothing.
use Rattle.std.proofs.Common.{arith}
use Rattle.std.proofs.lemmas.Grind.{common_steps}
use Rattle.table.specs.Rules.{agrees}
use Rattle.table.proofs.mode_agrees.Goals as goal

pub returns-then-mode_reactor-reactor : goal.returns-then-mode_reactor-reactor
unfolding agrees
returns-then-mode_reactor-reactor c = grind (arith, common_steps)

pub returns-else-mode_reactor-reactor : goal.returns-else-mode_reactor-reactor
unfolding agrees
returns-else-mode_reactor-reactor c = grind (arith, common_steps)
