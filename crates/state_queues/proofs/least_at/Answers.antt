-- `state_queues::least_at` meets its contract. Assumes nothing.
use Rattle.state_queues.proofs.HeadLaws.{read_past, read_there, read_nothing}
use borrow.Author.Rules.{rules}
use Rattle.state_queues.proofs.least_at.Goals as goal

pub returns-then-k-ge-QUEUES : goal.returns-then-k-ge-QUEUES
returns-then-k-ge-QUEUES c = search read_past

pub returns-then-heads-b-eq1 : goal.returns-then-heads-b-eq1
returns-then-heads-b-eq1 c = read_there _ _ (search rules) (search rules)

pub returns-else-heads-b-eq1 : goal.returns-else-heads-b-eq1
returns-else-heads-b-eq1 c = read_nothing _ _ (search rules) (search rules)
