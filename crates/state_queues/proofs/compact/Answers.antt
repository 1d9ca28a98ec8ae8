-- `state_queues::compact` meets its contract: those that stay lie over the front, and the ordinary ones that went are counted. Assumes nothing.
use mathlib.Core.Path.{refl, ap, ◌∙◌}
use lib.ListN.{get_or}
use Rattle.state_events.specs.Slots.{events_of, event_of, blank}
use Rattle.state_queues.specs.Queue.{goes_of, one_if}
use Rattle.state_queues.proofs.TakeLaws.{one_is, taken_none, taken_goes, taken_stays, taken_room}
use borrow.Author.Rules.{rules}
use native.Mathlib.Omega.{arith}
use Rattle.state_queues.proofs.compact.Goals as goal
use Rattle.state_queues.proofs.compact.Goals.{then-goes, else-goes}

pub loop-i-init : goal.loop-i-init
loop-i-init c = (search rules, taken_none _ _ c.requires.whole)

pub stay-requires-clause-from_lt_room_for_events : goal.stay-requires-clause-from_lt_room_for_events
stay-requires-clause-from_lt_room_for_events c = (search rules, taken_room _ _ _ _ _ _ c.loop-i.invariant.1)

pub overflow_add-w : goal.overflow_add-w
overflow_add-w c = omega (arith, taken_room _ _ _ _ _ _ c.loop-i.invariant.1)

pub loop-i-preserved : goal.loop-i-preserved
loop-i-preserved c =
    elim c.if-goes.branch [
      | then-goes w ↦
          let s = w.slot_at in let o = one_is _ w.from-ordinary.ensures in
          rw (w.rows-is, w.w-is, w.ordinary-is) (
            search rules,
            taken_goes (goes_of c.args.which) c.args.rows.now c.args.n c.loop-i.i c.loop-i.w c.loop-i.ordinary c.loop-i.rows
                (search rules) (search rules) c.loop-i.invariant.1 (event_of s.result) s.ensures c.goes.result
                (c.goes.ensures (event_of s.result) (rw s.ensures c.due_at.ensures)) w.from-ordinary.result w.if-goes.true
                (o.0 ∙ ap one_if w.is_ordinary.ensures) o.1,
          )
      | else-goes w ↦
          rw (w.rows-is, w.w-is, w.ordinary-is) (
            search rules,
            taken_stays (goes_of c.args.which) c.args.rows.now c.args.n c.loop-i.i c.loop-i.w c.loop-i.ordinary c.loop-i.rows
                (search rules) (search rules) c.loop-i.invariant.1 (get_or (events_of c.loop-i.rows) c.loop-i.i blank) refl c.goes.result
                (c.goes.ensures _ c.due_at.ensures) w.stay.new.rows w.if-goes.false w.stay.ensures,
          )
    ]
