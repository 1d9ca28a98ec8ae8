-- `value_store::is_sound` meets its contract: by cases. Assumes nothing.
use mathlib.Core.Path.{◌∙◌}
use Rattle.value_store.proofs.Laws.{sound_rules, sound_table}
use Rattle.store_words.specs.Entries.{held_fits}
use Rattle.value_store.proofs.is_sound.Goals as goal

pub keeps_rules-requires : goal.keeps_rules-requires
keeps_rules-requires c = rw c.most_held.ensures (held_fits _)

pub returns-then-accepted : goal.returns-then-accepted
returns-then-accepted c = search sound_rules

pub returns-else-accepted : goal.returns-else-accepted
returns-else-accepted c = c.if-accepted.false ∙ search sound_table
