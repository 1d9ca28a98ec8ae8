-- `store_words::bucket_at` meets its contract: the three words of its row are decoded. Assumes nothing.
use Rattle.lists.specs.Rows.{tab}
use Rattle.store_words.specs.Entries.{room_for_entries, blank_bucket}
use Rattle.store_words.specs.Words.{bucket_words, decode_bucket, encode_bucket, long_bucket}
use Rattle.lists.specs.Loops.{read_past, read_there}
use Rattle.std.proofs.Math.Nat.{add-zero}
use borrow.Author.Rules.{rules}
use Rattle.store_words.proofs.bucket_at.Goals as goal

pub returns-then-k-ge-ROOM_FOR_ENTRIES : goal.returns-then-k-ge-ROOM_FOR_ENTRIES
returns-then-k-ge-ROOM_FOR_ENTRIES c = search read_past

pub returns : goal.returns
unfolding decode_bucket tab
returns c = simp add-zero at (read_there decode_bucket encode_bucket bucket_words room_for_entries long_bucket c.args.rows.now c.args.k blank_bucket (search rules))
