-- `state_events::slot_of` meets its contract. Assumes nothing.
use mathlib.Core.Path.{refl, ◌∙◌}
use borrow.Author.Rules.{rules}
use Rattle.key_set.specs.Sets.{word_count}
use Rattle.state_events.specs.Slots.{decode, number_words}
use Rattle.state_events.proofs.SlotLaws.{words_at}
use Rattle.state_events.proofs.slot_of.Goals as goal

pub returns : goal.returns
unfolding decode
returns c = rw (c.copy_from_slice.ensures.after ∙ words_at c.args.row number_words {n = word_count} {m = word_count} refl (search rules))
