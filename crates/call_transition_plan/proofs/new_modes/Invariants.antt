-- `call_transition_plan::new_modes` meets its contract: the modes of the reactors before i stand. Assumes nothing.
use mathlib.Core.Path.{◌≡◌}
use mathlib.Core.List.{map}
use Rattle.lists.specs.Lists.{from}
use Rattle.state_room.specs.Padded.{padded}
use Rattle.call_transition_plan.specs.Plans.{mode_after}
use Rattle.state_room.specs.PartRows.{most_reactors}
use Rattle.call_transition_plan.proofs.new_modes.Given as goal

abbrev pub invariant-loop-i : goal.invariant-loop-i
invariant-loop-i l = l.out ≡ padded 0 most_reactors (map (mode_after l.fn.image l.fn.modes l.fn.request) (from 0 l.i))
