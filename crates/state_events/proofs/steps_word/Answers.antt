-- `state_events::steps_word` meets its contract. Assumes nothing.
use Rattle.state_events.specs.Slots.{steps_word}
use Rattle.state_events.proofs.steps_word.Goals as goal

pub returns : goal.returns
unfolding steps_word
returns c = rw (c.from.ensures, c.from-2.ensures)
