-- Document 02, C-11: what the writer answers to counts and rows, and what the lent buffer is then. Assumes nothing.
use Rattle.std.specs.Prelude.{ℕ, ◌+◌, ◌*◌, cond, List, ◌∷◌, ◌++◌, ltb, eqb, length, Result, Ok, Err}
use Rattle.std.proofs.lemmas.List.Edits.{sets}
use Rattle.table_rows.specs.Bytes.{Image, be_bytes}
use Rattle.table_rows.specs.Kinds.{kind_count}
use Rattle.table.specs.Check as table
use Rattle.table.specs.Check.{Checked, version, check_body}
use Rattle.table.specs.declared.ImageRefusal.TheVariants.{Short}
use Rattle.table_writer.specs.declared.WriteRefusal.{WriteRefusal}
use Rattle.table_writer.specs.declared.WriteRefusal.TheVariants as refusals

-- 01: "Length (4 bytes, counting all that follows), version byte 1, nine 2-byte counts, then rows"
unfoldable pub image_of : List ℕ → List ℕ → Image
image_of counts rows = be_bytes 4 (1 + length counts + length rows) ++ (version ∷ (counts ++ rows))

-- "nine 2-byte counts"
abbrev pub count_bytes : ℕ
count_bytes = 2 * kind_count

-- how many bytes the image has, or why nothing is written
abbrev pub Wrote : Type 0
Wrote = Result ℕ WriteRefusal

-- an answer, and the buffer after it
pub record Writing : Type 0 where
  pub answer : Wrote
  pub buffer : List ℕ

abbrev pub wrote : Wrote → List ℕ → Writing
wrote a b = record { answer = a; buffer = b }

-- the image of rows that were checked: over the front of a buffer that has room for it
abbrev pub placed : Checked → Image → List ℕ → Writing
placed (Ok u) s buffer = cond (ltb (length buffer) (length s)) (wrote (Err refusals.NoRoom) buffer) (wrote (Ok (length s)) (sets buffer 0 s))
placed (Err why) s buffer = wrote (Err (refusals.Image why)) buffer

-- "The rows are checked by the reader's own rules, stated once for both": "the reader's 3, 1 for rows that don't fit the counts, the reader's 4, then
-- 1 for a buffer too short; the buffer then keeps every byte". Other than nine counts are as an image that ends among them.
unfoldable pub writing : List ℕ → List ℕ → List ℕ → Writing
writing counts rows buffer =
    cond (eqb (length counts) count_bytes) (placed (check_body (image_of counts rows)) (image_of counts rows) buffer)
    (wrote (Err (refusals.Image Short)) buffer)

-- the refusal's number, or 0
abbrev pub number_of : Wrote → ℕ
number_of (Ok n) = 0
number_of (Err (refusals.Image why)) = table.number_of why
number_of (Err refusals.NoRoom) = 1

-- its place, or "how many bytes it used"
abbrev pub place_of : Wrote → ℕ
place_of (Ok n) = n
place_of (Err (refusals.Image why)) = table.place_of why
place_of (Err refusals.NoRoom) = 0
