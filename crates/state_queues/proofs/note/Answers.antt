-- `state_queues::note` meets its contract: one entry is rewritten, or stays. Assumes nothing.
use Rattle.lists.specs.Tests.{flag}
use Rattle.tags.specs.Views.{of_queue}
use Rattle.state_queues.proofs.HeadLaws.{note_lower, note_kept}
use Rattle.state_queues.proofs.note.Goals as goal

pub returns-then-lowers : goal.returns-then-lowers
returns-then-lowers c =
    let d = c.args.d in note_lower _ d.queue (of_queue d.tag) c.entry_of-k.ensures c.least_at.ensures (flag c.lowers.ensures c.if-lowers.true) c.put_least.ensures

pub returns-else-lowers : goal.returns-else-lowers
returns-else-lowers c =
    let d = c.args.d in note_kept _ d.queue (of_queue d.tag) c.entry_of-k.ensures c.least_at.ensures (flag c.lowers.ensures c.if-lowers.false) c.requires
