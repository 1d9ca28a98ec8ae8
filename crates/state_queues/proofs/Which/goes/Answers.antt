-- `state_queues::Which::goes` meets its contract. Assumes nothing.
use Rattle.state_queues.specs.Queue.{goes_of}
use Rattle.state_queues.proofs.Which.goes.Goals as goal

pub returns-in-At : goal.returns-in-At
unfolding goes_of
returns-in-At c = λ e h. rw c.in-At.is (c.is_at.ensures e h)

pub returns-in-Inside : goal.returns-in-Inside
unfolding goes_of
returns-in-Inside c = λ e h. rw (c.in-Inside.is, ← h.queue, ← c.from.ensures) c.contains.ensures
