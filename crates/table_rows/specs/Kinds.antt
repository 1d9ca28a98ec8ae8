-- Document 01, "The table image": the nine kinds of rows, their counts, and where each kind's rows begin. Assumes nothing.
use Rattle.std.specs.Prelude.{ℕ, zero, suc, ◌+◌, ◌*◌, List, [], ◌∷◌, get_or}
use Rattle.table_rows.specs.Bytes.{Image, be}
use Rattle.table_rows.specs.declared.Kind.{Kind}

abbrev pub kind : ℕ → ℕ → Kind
kind l w = record { least = l; width = w }

-- "Kind | Row (bytes)", and the least: at least one scope and one reactor; the most are in Limits
unfoldable pub kinds : List Kind
kinds =
    kind 1 6 ∷
    kind 1 4 ∷
    kind 0 4 ∷
    kind 0 1 ∷
    kind 0 3 ∷
    kind 0 4 ∷
    kind 0 6 ∷
    kind 0 4 ∷
    kind 0 14 ∷ []

-- their numbers, in the order of the rows
abbrev pub scope : ℕ
scope = 0

abbrev pub reactor : ℕ
reactor = 1

abbrev pub mode : ℕ
mode = 2

abbrev pub reaction : ℕ
reaction = 3

abbrev pub action : ℕ
action = 4

abbrev pub trigger : ℕ
trigger = 5

abbrev pub startup : ℕ
startup = 6

abbrev pub reset : ℕ
reset = 7

abbrev pub timer : ℕ
timer = 8

abbrev pub kind_count : ℕ
kind_count = 9

-- no row is wider
abbrev pub widest : ℕ
widest = 14

-- no kind past the nine has rows
unfoldable pub kind_of : ℕ → Kind
kind_of k = get_or kinds k (kind 0 0)

-- "Length (4 bytes, counting all that follows), version byte 1, nine 2-byte counts"
unfoldable pub count_place : ℕ → ℕ
count_place k = 5 + 2 * k

abbrev pub head_bytes : ℕ
head_bytes = 23

-- "The smallest image has 33 bytes, the largest 3,287."
abbrev pub largest : ℕ
largest = 3287

-- how many rows of the kind k the image says it has
unfoldable pub count : Image → ℕ → ℕ
count s k = be 2 s (count_place k)

-- "then rows in this order": where those of the kind k begin
unfoldable pub place : Image → ℕ → ℕ
place s zero = head_bytes
place s (suc k) = place s k + count s k * (kind_of k).width
