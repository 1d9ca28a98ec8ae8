-- `call_perform::ask` meets its contract: by the question. Assumes nothing.
use Rattle.std.proofs.Common.{◌∙◌, ap}
use Rattle.machine.specs.Machine.{perform, number}
use Rattle.call_pop.proofs.PopLaws.{queue_is}
use Rattle.call_perform.proofs.ask.Goals as goal

pub returns-in-PeekTag : goal.returns-in-PeekTag
returns-in-PeekTag c =
    λ s q h.
    let w = rw (queue_is s c.args.events.now c.args.counts c.requires.waiting_le_room_for_events q) at c.requires.headed in
    rw c.in-PeekTag.is (c.peek_answer.ensures ∙ c.peek_tag.ensures s w h)

pub returns-in-OrdinaryWork : goal.returns-in-OrdinaryWork
unfolding perform
returns-in-OrdinaryWork c = λ s q h. rw c.in-OrdinaryWork.is (ap number q.work)
