-- `call_pop_ready::sift` meets its contract: one event a turn is gathered or stays. Assumes nothing.
use mathlib.Core.Path.{refl, ap, ◌∙◌}
use native.Mathlib.Omega.{arith}
use Rattle.state_events.specs.Slots.{event_of}
use Rattle.state_queues.specs.Queue.{one_if}
use Rattle.state_queues.proofs.TakeLaws.{one_is}
use Rattle.call_pop_ready.proofs.SiftLaws.{sifting_none, sifting_room, sifting_keys, sifting_goes, sifting_lower, sifting_stays}
use borrow.Author.Rules.{rules}
use Rattle.call_pop_ready.proofs.sift.Goals as goal
use Rattle.call_pop_ready.proofs.sift.Goals.{then-goes, else-goes+then-is_lower, else-goes+else-is_lower}

pub loop-i-init : goal.loop-i-init
loop-i-init c = sifting_none _ _ _ _ _ _ c.requires.whole.0

pub add-out-requires : goal.add-out-requires
add-out-requires c =
    let l = c.loop-i.invariant in
    (l.grown.long ∙ c.requires.keys_len.0, sifting_keys l c.loop-i-test.true c.requires.keys_len.1)

pub stay-requires-clause-from_lt_room_for_events : goal.stay-requires-clause-from_lt_room_for_events
stay-requires-clause-from_lt_room_for_events c = (search rules, sifting_room c.loop-i.invariant)

pub overflow_add-w : goal.overflow_add-w
overflow_add-w c =
    omega (arith, sifting_room c.loop-i.invariant)

pub loop-i-preserved : goal.loop-i-preserved
loop-i-preserved c =
    let l = c.loop-i.invariant in
    let d = c.due_at-d in
    let o = c.requires.whole.1 in
    elim c.if-goes.branch [
      | then-goes w ↦
          (let s = w.slot_at-s in
          let n = one_is _ w.from-ordinary.ensures in
          rw (w.rows-is, w.keys-is, w.out-is, w.w-is, w.ordinary-is, w.lowest-is)
          (sifting_goes l c.loop-i-test.true o s.ensures (c.goes.ensures (event_of s.result) (rw s.ensures d.ensures)) w.add-out.result w.add-out.new.keys w.if-goes.true
          (n.0 ∙ ap one_if w.is_ordinary.ensures) n.1 w.add-out.ensures.keys_after w.add-out.ensures.actions_bound.0 w.add-out.ensures.actions_bound.1))
      | else-goes+then-is_lower w ↦
          rw (w.rows-is, w.keys-is, w.out-is, w.w-is, w.ordinary-is, w.lowest-is)
          (sifting_lower l c.loop-i-test.true o refl (c.goes.ensures _ d.ensures) w.if-goes.false w.stay.ensures (w.is_lower.ensures _ d.ensures) _ d.ensures.tag w.if-is_lower.true)
      | else-goes+else-is_lower w ↦
          rw (w.rows-is, w.keys-is, w.out-is, w.w-is, w.ordinary-is, w.lowest-is)
          (sifting_stays l c.loop-i-test.true o refl (c.goes.ensures _ d.ensures) w.if-goes.false w.stay.ensures (w.is_lower.ensures _ d.ensures) w.if-is_lower.false)
    ]
