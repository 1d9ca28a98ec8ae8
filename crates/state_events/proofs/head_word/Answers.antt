-- `state_events::head_word` meets its contract. Assumes nothing.
use Rattle.state_events.specs.Slots.{head_word}
use Rattle.state_events.proofs.SlotLaws.{bit_is}
use Rattle.state_events.proofs.head_word.Goals as goal

pub returns : goal.returns
unfolding head_word
returns c = rw (c.from.ensures, c.from-2.ensures, c.from-3.ensures, c.from-4.ensures, c.from-5.ensures) (simp bit_is)
