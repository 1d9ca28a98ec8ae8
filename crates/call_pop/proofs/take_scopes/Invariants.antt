-- `call_pop::take_scopes` meets its contract: what is left to take makes the whole, one turn less each time. Assumes nothing.
use Prim.Native.Nat.{◌-◌}
use lib.ListN.{take}
use Rattle.tags.specs.Views.{of_global}
use Rattle.machine.specs.Heads.{take_scopes}
use Rattle.state_events.specs.Slots.{events_of}
use Rattle.state_queues.specs.Queue.{Held, heads_of}
use Rattle.state_scopes.specs.Scopes.{scopes_of}
use Rattle.state_heads.specs.Found.{head_of}
use Rattle.call_pop.specs.Pops.{lent}
use Rattle.call_pop.proofs.PopLaws.{Going}
use Rattle.call_pop.proofs.take_scopes.Given as goal

abbrev pub invariant-loop-i : goal.invariant-loop-i
invariant-loop-i l = Going l.image (scopes_of l.scopes) (of_global l.fn.turn.tag) (take_scopes l.fn.turn.turns l.image (scopes_of l.scopes) (of_global l.fn.turn.tag) (lent l.initial.events l.initial.out.counts)) l.initial.out l.initial.keys (l.fn.turn.turns - l._i) l.events l.keys l.out (head_of l.local) ×
    Held l.heads (heads_of (take l.out.counts.waiting (events_of l.events)))
