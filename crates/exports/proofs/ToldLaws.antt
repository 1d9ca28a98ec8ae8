-- Numbers put into lent bytes one behind the other, and lent slices that are too short. Assumes nothing.
use mathlib.Core.Bool.{Bool, cond}
use mathlib.Core.Path.{◌≡◌, refl, ap, ◌∙◌, sym}
use mathlib.Core.List.{List, [], ◌∷◌, ◌++◌, append_assoc, append-nil}
use Prim.Native.Nat.{ℕ, ◌+◌, ◌≤◌, ◌<◌}
use native.Mathlib.Numerals.{add-one}
use lib.ListN.{length, take, get_or}
use lib.Seq.{take-suc, take_all}
use borrow.Author.Tests.{lt-ltb, le-ltb}
use Rattle.lists.specs.Tests.{bit_of}
use Rattle.tags.specs.Tags.{Tag, at}
use Rattle.byte_writer.specs.Written.{Written}
use Rattle.byte_writer.proofs.WrittenLaws.{written_none, written_then, written_as}
use Rattle.table_rows.specs.Bytes.{be_bytes}
use Rattle.exports.specs.Told.{Told, told, no_room, with_room, word_bytes, tag_bytes, mapped_bytes}

-- ---- room

module _ (n : ℕ) (room : List ℕ) (t : Told) where
  pub no_room_lem : length room < n → told no_room room ≡ with_room n room t
  unfolding with_room
  no_room_lem h = sym (ap (λ b. cond b (told no_room room) t) (lt-ltb (length room) n h))

  pub in_room : n ≤ length room → {a : Told} → a ≡ t → a ≡ with_room n room t
  unfolding with_room
  in_room h e = e ∙ sym (ap (λ b. cond b (told no_room room) t) (le-ltb (length room) n h))

-- ---- a tag's

pub tag_written : (o s : ℕ) {old mid new : List ℕ} {m end : ℕ} → Written old 0 (be_bytes 8 o) mid m → Written mid m (be_bytes 4 s) new end → Written old 0 (tag_bytes (at o s)) new end
unfolding tag_bytes
tag_written o s v w = written_then v w

-- .. and whether it was held back
pub mapped_written :
    (t : Tag) (held : Bool) {old mid new : List ℕ} {m end b : ℕ} → Written old 0 (tag_bytes t) mid m → b ≡ bit_of held → Written mid m (be_bytes 1 b) new end →
    Written old 0 (mapped_bytes (record { tag = t; held = held })) new end
unfolding mapped_bytes
mapped_written t held v e w = written_then v (rw (← e) w)

-- ---- the bytes of numbers, one behind the other

words_append : (a b : List ℕ) → word_bytes (a ++ b) ≡ word_bytes a ++ word_bytes b
unfolding word_bytes
words_append [] b = refl
words_append (n ∷ a) b = ap (λ l. be_bytes 8 n ++ l) (words_append a b) ∙ sym (append_assoc (be_bytes 8 n) (word_bytes a) (word_bytes b))

words_next : (ws : List ℕ) (i : ℕ) → i < length ws → word_bytes (take i ws) ++ be_bytes 8 (get_or ws i 0) ≡ word_bytes (take (i + 1) ws)
unfolding word_bytes
words_next ws i h =
    ap (λ l. word_bytes (take i ws) ++ l) (sym (append-nil (be_bytes 8 (get_or ws i 0)))) ∙
    (sym (words_append (take i ws) (get_or ws i 0 ∷ [])) ∙ ap word_bytes (sym (take-suc ws i 0 h) ∙ ap (λ k. take k ws) (sym (add-one i))))

pub words_none : (old : List ℕ) (at : ℕ) (ws : List ℕ) → at ≤ length old → Written old at (word_bytes (take 0 ws)) old at
unfolding word_bytes
words_none old at ws h = written_none old at h

module _ {old : List ℕ} {at : ℕ} (ws : List ℕ) (i : ℕ) {mid : List ℕ} {m : ℕ} (v : Written old at (word_bytes (take i ws)) mid m) where
  -- one more
  pub words_on : i < length ws → {w : ℕ} → w ≡ get_or ws i 0 → {new : List ℕ} {end : ℕ} → Written mid m (be_bytes 8 w) new end → Written old at (word_bytes (take (i + 1) ws)) new end
  words_on h {w} e x = written_as (written_then v x) (ap (λ n. word_bytes (take i ws) ++ be_bytes 8 n) e ∙ words_next ws i h)

  pub words_all : length ws ≤ i → Written old at (word_bytes ws) mid m
  words_all h = written_as v (ap word_bytes (take_all i ws h))
