-- `call_pop::take_head` meets its contract. Assumes nothing.
use Rattle.std.proofs.Common.{sym, ◌∙◌}
use Rattle.tags.specs.Views.{of_global}
use Rattle.tags.proofs.Orders.{told_same}
use Rattle.call_pop.proofs.PopLaws.{at_none, at_there, at_other, takes_none}
use Rattle.call_pop.proofs.take_head.Goals as goal

pub returns-in-Some-clause-takes : goal.returns-in-Some-clause-takes
returns-in-Some-clause-takes c =
    rw (at_there _ _ c.args.h _ c.in-Some.is (sym (told_same (of_global c.in-Some.x.tag) (of_global c.args.t) (rw c.in-Some.x-is at c.eq.ensures)) ∙ c.if-eq.true)) (rw c.in-Some.x-is at c.take_at.ensures.takes)

pub returns-in_default-clause-takes : goal.returns-in_default-clause-takes
returns-in_default-clause-takes c =
    rw (at_other _ _ c.args.h _ c.in-Some.is (sym (told_same (of_global c.in-Some.x.tag) (of_global c.args.t) (rw c.in-Some.x-is at c.eq.ensures)) ∙ c.if-eq.false))
    (takes_none _ c.args.events.now c.args.given c.requires.waits c.args.keys.now c.requires.keys_len.1)

pub returns-in_default-2-clause-takes : goal.returns-in_default-2-clause-takes
returns-in_default-2-clause-takes c =
    rw (at_none _ _ c.args.h c.in_default.is) (takes_none _ c.args.events.now c.args.given c.requires.waits c.args.keys.now c.requires.keys_len.1)
