-- `state_queues::lowers` meets its contract: offsets first. Assumes nothing.
use Rattle.std.proofs.Common.{arith}
use Rattle.std.proofs.lemmas.Bool.Decides.{nat_tests}
use Rattle.tags.specs.Tags.{earlier}
use Rattle.state_queues.proofs.lowers.Goals as goal

pub returns-then-u-t : goal.returns-then-u-t
unfolding earlier
returns-then-u-t c = rw c.in-Some.is (grind (arith, nat_tests, c.if-u-t.true))

pub returns-then-t-u : goal.returns-then-t-u
unfolding earlier
returns-then-t-u c = rw c.in-Some.is (grind (arith, nat_tests, c.if-t-u.true))

pub returns-else-t-u : goal.returns-else-t-u
unfolding earlier
returns-else-t-u c = rw c.in-Some.is (grind (arith, nat_tests, c.if-u-t.false, c.if-t-u.false))
