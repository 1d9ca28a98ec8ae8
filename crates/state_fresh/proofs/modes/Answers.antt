-- `state_fresh::modes` meets its contract: the modes of the reactors before i stand. Assumes nothing.
use Rattle.state_room.specs.Holds.{most_reactors_lem}
use Rattle.state_fresh.proofs.FreshLaws.{modes_none, modes_more}
use borrow.Author.Rules.{rules}
use Rattle.state_fresh.proofs.modes.Goals as goal

pub loop-i-init : goal.loop-i-init
loop-i-init c = (search rules, rw c.count-n.ensures (most_reactors_lem c.args.image.now c.requires), c.count-n.ensures, modes_none _)

pub loop-i-preserved : goal.loop-i-preserved
loop-i-preserved c = let l = c.loop-i in (search rules, l.invariant.1, l.invariant.2, rw c.from.ensures (modes_more _ l.i _ l.invariant.3 c.initial_mode.ensures))
