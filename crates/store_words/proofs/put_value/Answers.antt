-- `store_words::put_value` meets its contract: the four words of its row are written, and no other. Assumes nothing.
use Rattle.std.proofs.Math.Nat.{add-zero}
use Rattle.lists.specs.Held.{held_past}
use Rattle.store_words.specs.Entries.{room_for_entries, of_value}
use Rattle.store_words.specs.Words.{value_words, decode_value, encode_value, long_value, value_back}
use Rattle.lists.specs.Loops.{write_there}
use borrow.Author.Rules.{rules}
use Rattle.store_words.proofs.put_value.Goals as goal

pub returns-then-k-ge-ROOM_FOR_ENTRIES : goal.returns-then-k-ge-ROOM_FOR_ENTRIES
returns-then-k-ge-ROOM_FOR_ENTRIES c = search held_past

pub returns : goal.returns
unfolding encode_value
returns c =
    let a = c.args in
    write_there decode_value encode_value value_words room_for_entries long_value _ _ (of_value a.v) (search rules) (value_back _ (search rules) (search rules)) (search rules) (simp add-zero)
