-- `store::blank` meets its contract: invariant: blanks up to i. Assumes nothing.
use Rattle.lists.specs.Loops.{blank_none, blank_one}
use native.Mathlib.Omega.{arith}
use Rattle.store.proofs.blank.Goals as goal

pub loop-i-init : goal.loop-i-init
loop-i-init g c = (omega arith, omega arith, search blank_none)

pub loop-i-preserved : goal.loop-i-preserved
loop-i-preserved g c = (omega arith, omega arith, search blank_one)
