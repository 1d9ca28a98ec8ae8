-- `manager::slots_of` meets its contract: invariant: the first i slots are those of the rows. Assumes nothing.
use mathlib.Core.Path.{refl}
use native.Mathlib.Omega.{arith}
use Rattle.lists.specs.Loops.{things_more, things_all}
use borrow.Author.Rules.{rules}
use Rattle.manager.proofs.slots_of.Goals as goal

pub loop-i-init : goal.loop-i-init
loop-i-init c = (omega arith, search rules, refl)

pub loop-i-preserved : goal.loop-i-preserved
loop-i-preserved c = (omega arith, search rules, search things_more)

pub returns : goal.returns
returns c = search things_all
