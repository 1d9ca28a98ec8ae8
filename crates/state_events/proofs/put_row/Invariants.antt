-- `state_events::put_row` meets its contract: so many words are put. Assumes nothing.
use lib.ListN.{get_or}
use Rattle.state_events.specs.Slots.{slot_words}
use Rattle.state_events.proofs.SlotLaws.{Put}
use Rattle.state_events.proofs.put_row.Given as goal

abbrev pub invariant-loop-j : goal.invariant-loop-j
invariant-loop-j l = Put l.initial.rows l.b slot_words (λ i. get_or l.row i 0) l.j l.rows
