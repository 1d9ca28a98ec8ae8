-- `state_queues::clear` meets its contract: one blank more behind those that stay, a turn. Assumes nothing.
use Rattle.state_events.specs.Slots.{event_of}
use Rattle.state_queues.proofs.TakeLaws.{clear_none, clear_one}
use borrow.Author.Rules.{rules}
use Rattle.state_queues.proofs.clear.Goals as goal

pub loop-i-init : goal.loop-i-init
loop-i-init c = (search rules, search rules, clear_none c.args.rows.now c.args.w c.requires.whole)

pub loop-i-preserved : goal.loop-i-preserved
loop-i-preserved c =
    let a = c.args in (
      search rules,
      search rules,
      clear_one a.rows.now a.w c.loop-i.i c.loop-i.rows c.put_slot.new.rows (event_of c.blank.result) (search rules) c.blank.ensures c.loop-i.invariant.2
          c.put_slot.ensures,
    )
