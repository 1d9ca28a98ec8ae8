-- `store::upsert` meets its contract: one element changed, or one more, laid over the array. Assumes nothing.
use Rattle.lists.specs.Loops.{changed_count, changed_held, added_count, added_held}
use Rattle.store_words.specs.Entries.{room_for_entries}
use borrow.Author.Rules.{rules}
use Rattle.store.proofs.upsert.Goals as goal

pub returns-then-i-n : goal.returns-then-i-n
returns-then-i-n g c =
    let y = g.E.Entry.layout in
    record {
      value = changed_count y.decode y.encode y.words room_for_entries y.long y.blank _ _ _ _ _ _ c.requires.i_value (search rules) (search rules);
      held = search changed_held;
    }

pub returns : goal.returns
returns g c =
    let y = g.E.Entry.layout in
    record {
      value = added_count y.decode y.encode y.words room_for_entries y.long y.blank _ _ _ _ _ _ c.requires.i_value (search rules) (search rules);
      held = search added_held;
    }
