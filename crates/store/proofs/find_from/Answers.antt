-- `store::find_from` meets its contract: invariant: the first that passes from the start on is the first from i on. Assumes nothing.
use mathlib.Core.Path.{◌≡◌, ◌∙◌, sym}
use Rattle.lists.specs.Loops.{find_here, find_next, find_none}
use native.Mathlib.Omega.{arith}
use Rattle.store.proofs.find_from.Goals as goal

pub returns-then-passes : goal.returns-then-passes
returns-then-passes g c = search find_here

pub loop-i-preserved : goal.loop-i-preserved
loop-i-preserved g c = (omega arith, omega arith, search find_next)

pub returns : goal.returns
returns g c =
    let e : c.loop-i.i ≡ c.args.n = omega arith in
    sym e ∙ search find_none
