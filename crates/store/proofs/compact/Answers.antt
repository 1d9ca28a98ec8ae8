-- `store::compact` meets its contract: invariant: those of the first i that stay lie over the front. Assumes nothing.
use Rattle.lists.specs.Loops.{compact_none, compact_goes, compact_stays}
use native.Mathlib.Omega.{arith}
use Rattle.store.proofs.compact.Goals as goal
use Rattle.store.proofs.compact.Goals.{then-not-passes, else-not-passes}

pub loop-i-init : goal.loop-i-init
loop-i-init g c = (omega arith, omega arith, search compact_none)

pub loop-i-preserved : goal.loop-i-preserved
loop-i-preserved g c =
    elim c.if-not-passes.branch [
      | then-not-passes w ↦ (omega arith, omega arith, rw (w.rows-is, w.w-is) (search compact_stays))
      | else-not-passes w ↦ (omega arith, omega arith, rw (w.rows-is, w.w-is) (search compact_goes))
    ]
