-- What a function for C answers: a number, and what the lent bytes are then. Assumes nothing.
use Rattle.std.specs.Prelude.{ℕ, cond, List, [], ◌∷◌, ◌++◌, ltb, length}
use Rattle.std.proofs.lemmas.List.Edits.{sets}
use Rattle.table_rows.specs.Bytes.{be_bytes}
use Rattle.lists.specs.Tests.{bit_of}
use Rattle.tags.specs.Tags.{Tag, Mapped}

pub record Told : Type 0 where
  pub number : ℕ
  pub bytes : List ℕ

abbrev pub told : ℕ → List ℕ → Told
told n bs = record { number = n; bytes = bs }

-- bytes over the front of those that are lent
abbrev pub front : List ℕ → List ℕ → List ℕ
front room bs = sets room 0 bs

-- no refusal has this number
abbrev pub no_room : ℕ
no_room = 255

-- a lent slice of fewer than n bytes is told first, whatever else would be, and stays as it was
unfoldable pub with_room : ℕ → List ℕ → Told → Told
with_room n room t = cond (ltb (length room) n) (told no_room room) t

-- ---- numbers as bytes

-- numbers of eight bytes, one behind the other
unfoldable pub word_bytes : List ℕ → List ℕ
word_bytes [] = []
word_bytes (n ∷ ns) = be_bytes 8 n ++ word_bytes ns

-- an offset of 8 bytes, a microstep of 4
unfoldable pub tag_bytes : Tag → List ℕ
tag_bytes t = be_bytes 8 t.offset ++ be_bytes 4 t.microstep

-- .. and whether it was held back, in one byte
unfoldable pub mapped_bytes : Mapped → List ℕ
mapped_bytes m = tag_bytes m.tag ++ be_bytes 1 (bit_of m.held)
