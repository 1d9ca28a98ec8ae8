-- `say_sources` is safe: what is taken out leaves the events whole, and no more of them.
use Rattle.std.proofs.Common.{◌≤◌}
use Rattle.state_events.specs.Slots.{Whole, room_for_events}
use Rattle.explained.proofs.say_sources.Given as goal

abbrev pub invariant-loop : goal.invariant-loop
invariant-loop l = Whole l.events × (l.left ≤ room_for_events)
