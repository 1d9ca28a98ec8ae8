-- `call_transition_resets::lose` meets its contract: those of the first i that stay lie over the front. Assumes nothing.
use Rattle.std.proofs.Common.{arith}
use Rattle.lists.specs.Loops.{compact_none, compact_goes, compact_stays, compact_count, compact_held, lose_done}
use Rattle.call_transition_resets.proofs.lose.Goals as goal
use Rattle.call_transition_resets.proofs.lose.Goals.{then-not-goes, else-not-goes}

pub loop-i-init : goal.loop-i-init
loop-i-init g c = (omega arith, c.requires.whole, λ test h. search compact_none)

pub loop-i-preserved : goal.loop-i-preserved
loop-i-preserved g c =
    elim c.if-not-goes.branch [
      | then-not-goes w ↦ (
        omega arith,
        rw w.rows-is w.put.ensures.whole,
        λ test h. rw (w.rows-is, w.w-is) (
            let so_far = c.loop-i.invariant.2 test h in
            let told = h _ _ c.goes.ensures in
            search compact_stays),
      )
      | else-not-goes w ↦ (
        omega arith,
        rw w.rows-is c.loop-i.invariant.1,
        λ test h. rw (w.rows-is, w.w-is) (
            let so_far = c.loop-i.invariant.2 test h in
            let told = h _ _ c.goes.ensures in
            search compact_goes),
      )
    ]

pub returns : goal.returns
returns g c = λ test h.
    let y = g.E.Entry.layout in
    let so_far = c.loop-i.invariant.2 test h in
    let count = compact_count y.decode y.encode y.words _ y.long test _ c.args.n c.loop-i.i c.loop-i.w _ c.loop-i.auto.i-end c.loop-i-test.false so_far in
    let held = compact_held y.decode y.encode y.words _ y.long test _ c.args.n c.loop-i.i c.loop-i.w _ c.loop-i.auto.i-end c.loop-i-test.false so_far in
    (count, lose_done y.decode y.encode y.words _ y.long y.blank test _ c.args.n c.loop-i.w _ _ c.requires.n_le_room_for_entries count held c.blank.ensures)
