-- `state_queues::heads` meets its contract: from the last event to the first, one entry is rewritten for each. Assumes nothing.
use native.Mathlib.Omega.{arith}
use Rattle.state_events.proofs.SlotLaws.{events_long}
use Rattle.state_queues.proofs.HeadLaws.{heads_start, heads_step, blank_heads}
use Rattle.state_events.specs.Slots.{events_of}
use borrow.Author.Rules.{rules}
use Rattle.state_queues.proofs.heads.Goals as goal

pub loop-i-init : goal.loop-i-init
loop-i-init c = (search rules, heads_start (events_of c.args.rows.now) c.args.n blank_heads)

pub loop-i-preserved : goal.loop-i-preserved
loop-i-preserved c =
    let a = c.args in
    let l = events_long a.rows.now in (
      search rules,
      heads_step (events_of a.rows.now) a.n c.loop-i.i c.due_at.result (search rules) (search rules) (omega arith)
          c.due_at.ensures c.loop-i.invariant.1 c.note.ensures,
    )
