-- `state_events::row_at` meets its contract: so many words are read. Assumes nothing.
use Prim.Native.Nat.{◌+◌}
use lib.ListN.{get_or}
use Rattle.state_events.specs.Slots.{slot_words}
use Rattle.state_events.proofs.SlotLaws.{Put}
use Rattle.state_events.proofs.row_at.Given as goal

abbrev pub invariant-loop-j : goal.invariant-loop-j
invariant-loop-j l = Put l.initial.row 0 slot_words (λ i. get_or l.rows (l.b + i) 0) l.j l.row
