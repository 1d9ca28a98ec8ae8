-- `call_transition_resets::zero_clocks` meets its contract: the scopes before i are done. Assumes nothing.
use lib.ListN.{take}
use Rattle.machine.specs.Table.{scopes as scopes_in}
use Rattle.state_scopes.specs.Scopes.{scopes_of}
use Rattle.state_room.specs.PartRows.{Scoped}
use Rattle.call_transition_resets.proofs.ResetLaws.{partly_all}
use Rattle.call_transition_resets.proofs.zero_clocks.Given as goal

abbrev pub invariant-loop-i : goal.invariant-loop-i
invariant-loop-i l =
    Scoped (partly_all l.fn.inside.words (scopes_in l.fn.image) (take (scopes_in l.fn.image) (scopes_of l.initial.scopes)) l.i) l.scopes
