-- `state_rules::ordinary_work` meets its contract: those before i are counted. Assumes nothing.
use Rattle.std.specs.Prelude.{◌≡◌, ◌≤◌, take}
use Rattle.lists.specs.Lists.{count}
use Rattle.machine.specs.State.{ordinary}
use Rattle.state_events.specs.Slots.{events_of}
use Rattle.state_rules.proofs.ordinary_work.Given as goal

abbrev pub invariant-loop-i : goal.invariant-loop-i
invariant-loop-i l = record { few : l.work ≤ l.i; counted : l.work ≡ count ordinary (take l.i (events_of l.events)) }
