-- `store_words::value_at` meets its contract: the four words of its row are decoded. Assumes nothing.
use Rattle.lists.specs.Rows.{tab}
use Rattle.store_words.specs.Entries.{room_for_entries, blank_value}
use Rattle.store_words.specs.Words.{value_words, decode_value, encode_value, long_value}
use Rattle.lists.specs.Loops.{read_past, read_there}
use Rattle.std.proofs.Math.Nat.{add-zero}
use borrow.Author.Rules.{rules}
use Rattle.store_words.proofs.value_at.Goals as goal

pub returns-then-k-ge-ROOM_FOR_ENTRIES : goal.returns-then-k-ge-ROOM_FOR_ENTRIES
returns-then-k-ge-ROOM_FOR_ENTRIES c = search read_past

pub returns : goal.returns
unfolding decode_value tab
returns c = simp add-zero at (read_there decode_value encode_value value_words room_for_entries long_value c.args.rows.now c.args.k blank_value (search rules))
