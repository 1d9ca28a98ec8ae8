-- `state_events::words_of` meets its contract. Assumes nothing.
use Rattle.state_events.specs.Slots.{event_of}
use Rattle.state_events.proofs.SlotLaws.{Proper, encoded}
use mathlib.Core.List.{append-nil}
use borrow.Author.Rules.{rules}
use Rattle.state_events.proofs.words_of.Goals as goal

pub returns : goal.returns
returns c =
    let p : Proper (event_of c.args.s) = record { queue = search rules; microstep = search rules; action = search rules; stored = search rules; reactions = search rules } in
    encoded _ p (rw (c.head_word.ensures, c.steps_word.ensures, append-nil, c.copy_from_slice.ensures.after))
