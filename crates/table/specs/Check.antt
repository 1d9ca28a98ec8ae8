-- Document 01, "The table image", from "Checks:" on: the check of an image, in its order, and each refusal's number and place.
-- Assumes nothing.
use Rattle.std.specs.Prelude.{ℕ, ◌+◌, Bool, true, false, cond, not, ◌&&◌, ◌||◌, ltb, leb, eqb, length, Result, Ok, Err, ⊤}
use Rattle.lists.specs.Scan.{scan}
use Rattle.table_rows.specs.Bytes.{Image, be}
use Rattle.table_rows.specs.Kinds.{kind_of, kind_count, head_bytes, count, count_place, place}
use Rattle.table_rows.specs.Limits.{most}
use Rattle.table_rows.specs.Rows.{row_place}
use Rattle.table.specs.Rules.{row_rule}
use Rattle.table.specs.declared.ImageRefusal.{ImageRefusal}
use Rattle.table.specs.declared.ImageRefusal.TheVariants.{Length, Version, Short, Count, Unfilled, Row}

abbrev pub number_of : ImageRefusal → ℕ
number_of Length = 1
number_of Version = 2
number_of Short = 1
number_of (Count at) = 3
number_of Unfilled = 1
number_of (Row at) = 4

-- "Place answered with 1: 0; with 2: 4; with 3: the count's; with 4: the first byte of the first row that breaks a rule."
abbrev pub place_of : ImageRefusal → ℕ
place_of Length = 0
place_of Version = 4
place_of Short = 0
place_of (Count at) = at
place_of Unfilled = 0
place_of (Row at) = at

-- accepted, or why not
abbrev pub Checked : Type 0
Checked = Result ⊤ ImageRefusal

-- "under 5 bytes or wrong length": the length counts all that follows its four bytes
unfoldable pub wrong_length : Image → Bool
wrong_length s = ltb (length s) 5 || not (eqb (be 4 s 0 + 4) (length s))

abbrev pub version : ℕ
version = 1

-- no more rows than the most of the image's version, and no fewer than the least
unfoldable pub count_fits : Image → ℕ → Bool
count_fits s k = leb (kind_of k).least (count s k) && leb (count s k) (most s k)

-- the first kind whose count does not fit, or how many kinds there are
unfoldable pub bad_count : Image → ℕ
bad_count s = scan (count_fits s) 0 kind_count

-- the first row of the kind k that breaks a rule, or how many there are
unfoldable pub bad_row : Image → ℕ → ℕ
bad_row s k = scan (row_rule s k) 0 (count s k)

unfoldable pub kind_fits : Image → ℕ → Bool
kind_fits s k = leb (count s k) (bad_row s k)

-- the first kind with such a row
unfoldable pub bad_kind : Image → ℕ
bad_kind s = scan (kind_fits s) 0 kind_count

-- "rows in order (4)"
unfoldable pub check_rows : Image → Checked
check_rows s = cond (ltb (bad_kind s) kind_count) (Err (Row (row_place s (bad_kind s) (bad_row s (bad_kind s))))) (Ok tt)

-- "counts in order (3, also for no scope or no reactor); rows don't fill it exactly (1); rows in order (4)": reader and writer
abbrev pub check_body : Image → Checked
check_body s =
    cond (ltb (bad_count s) kind_count) (Err (Count (count_place (bad_count s))))
    (cond (not (eqb (place s kind_count) (length s))) (Err Unfilled)
    (check_rows s))

-- "under 5 bytes or wrong length (1); version (2); under 23 bytes (1)", then these
unfoldable pub check : Image → Checked
check s =
    cond (wrong_length s) (Err Length)
    (cond (not (eqb (be 1 s 4) version)) (Err Version)
    (cond (ltb (length s) head_bytes) (Err Short)
    (check_body s)))

-- "the table passes the rules above"
abbrev pub accepts : Checked → Bool
accepts (Ok u) = true
accepts (Err n) = false

unfoldable pub is_table : Image → Bool
is_table s = accepts (check s)
