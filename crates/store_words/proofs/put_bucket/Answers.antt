-- `store_words::put_bucket` meets its contract: the three words of its row are written, and no other. Assumes nothing.
use Rattle.std.proofs.Math.Nat.{add-zero}
use Rattle.lists.specs.Held.{held_past}
use Rattle.store_words.specs.Entries.{room_for_entries, of_bucket}
use Rattle.store_words.specs.Words.{bucket_words, decode_bucket, encode_bucket, long_bucket, bucket_back}
use Rattle.lists.specs.Loops.{write_there}
use borrow.Author.Rules.{rules}
use Rattle.store_words.proofs.put_bucket.Goals as goal

pub returns-then-k-ge-ROOM_FOR_ENTRIES : goal.returns-then-k-ge-ROOM_FOR_ENTRIES
returns-then-k-ge-ROOM_FOR_ENTRIES c = search held_past

pub returns : goal.returns
unfolding encode_bucket
returns c =
    let a = c.args in
    write_there decode_bucket encode_bucket bucket_words room_for_entries long_bucket _ _ (of_bucket a.e) (search rules) (bucket_back _ (search rules) (search rules)) (search rules) (simp add-zero)
