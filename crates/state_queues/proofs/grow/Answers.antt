-- `state_queues::grow` meets its contract. Assumes nothing.
use Rattle.state_queues.proofs.LowLaws.{grow_one}
use borrow.Author.Rules.{rules}
use Rattle.state_queues.proofs.grow.Goals as goal

pub returns : goal.returns
returns c =
    grow_one c.args.rows.now c.args.before c.args.after c.requires.held c.due_at.result c.requires.before_le_after.0 c.requires.before_le_after.1 c.requires.before_le_after.2 (search rules)
    c.due_at.ensures c.note.ensures
