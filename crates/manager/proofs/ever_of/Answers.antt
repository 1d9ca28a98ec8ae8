-- `manager::ever_of` meets its contract: invariant: the first i are those of the rows. Assumes nothing.
use mathlib.Core.Path.{refl}
use native.Mathlib.Omega.{arith}
use Rattle.manager.proofs.Front.{ever_next, ever_all}
use borrow.Author.Rules.{rules}
use Rattle.manager.proofs.ever_of.Goals as goal

pub loop-i-init : goal.loop-i-init
loop-i-init c = (omega arith, search rules, refl)

pub loop-i-preserved : goal.loop-i-preserved
loop-i-preserved c = (omega arith, search rules, search ever_next)

pub returns : goal.returns
returns c = search ever_all
