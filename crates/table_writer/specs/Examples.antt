-- The writer's definition, computed: the smallest table, a timer of one hour, and each refusal. Assumes nothing.
use Rattle.std.specs.Prelude.{◌≡◌, refl, List, [], ◌∷◌, ◌++◌, ℕ, ◌*◌, replicate, Ok, Err}
use Rattle.lists.specs.Lists.{every}
use Rattle.lists.specs.Scan.{scan}
use Rattle.table_rows.specs.Bytes.{be, be_bytes}
use Rattle.table_rows.specs.Kinds.{kinds, kind_of, count, count_place, place, timer}
use Rattle.table_rows.specs.Limits.{versions, limits}
use Rattle.table_rows.specs.Rows.{row_place, field}
use Rattle.table_rows.specs.Fields.{field_table, fields_of}
use Rattle.table.specs.Rules.{key_fields, key_exists, keys_exist, parent_rule, scope_rule, initial_rule, reactor_rule, own_rule, row_rule}
use Rattle.table.specs.Check.{count_fits, bad_count, bad_row, kind_fits, bad_kind, check_rows}
use Rattle.table.specs.declared.ImageRefusal.TheVariants.{Short, Count, Unfilled, Row}
use Rattle.table_writer.specs.Writer.{image_of, wrote, writing}
use Rattle.table_writer.specs.Numbers.{number_at, row_bytes}
use Rattle.table_writer.specs.declared.WriteRefusal.TheVariants as refusals

-- one scope without a parent or a mode, one reactor rooted in it without an initial mode
abbrev counts : List ℕ
counts = 0 ∷ 1 ∷ 0 ∷ 1 ∷ 0 ∷ 0 ∷ 0 ∷ 0 ∷ 0 ∷ 0 ∷ 0 ∷ 0 ∷ 0 ∷ 0 ∷ 0 ∷ 0 ∷ 0 ∷ 0 ∷ []

abbrev rows : List ℕ
rows = 255 ∷ 255 ∷ 0 ∷ 0 ∷ 255 ∷ 255 ∷ 0 ∷ 0 ∷ 255 ∷ 255 ∷ []

-- as many bytes of 7
abbrev room : ℕ → List ℕ
room n = replicate n 7

-- the length counts all that follows: 29 of 33 bytes; two bytes past the image stay
pub smallest_written : writing counts rows (room 35) ≡ wrote (Ok 33) (0 ∷ 0 ∷ 0 ∷ 29 ∷ 1 ∷ (counts ++ (rows ++ (7 ∷ 7 ∷ []))))
unfolding writing image_of be_bytes be count_fits bad_count bad_row kind_fits bad_kind check_rows scan kind_of kinds versions limits count count_place place row_place field key_fields key_exists keys_exist
    every parent_rule scope_rule initial_rule reactor_rule own_rule row_rule
smallest_written = refl

-- a byte of room less
pub no_room_lem : writing counts rows (room 32) ≡ wrote (Err refusals.NoRoom) (room 32)
unfolding writing image_of be_bytes be count_fits bad_count bad_row kind_fits bad_kind check_rows scan kind_of kinds versions limits count count_place place row_place field key_fields key_exists keys_exist
    every parent_rule scope_rule initial_rule reactor_rule own_rule row_rule
no_room_lem = refl

-- a scope in a reactor that is not there: 4 at its first byte, before the room is asked for
pub broken_row : writing counts (255 ∷ 255 ∷ 0 ∷ 1 ∷ 255 ∷ 255 ∷ 0 ∷ 0 ∷ 255 ∷ 255 ∷ []) [] ≡ wrote (Err (refusals.Image (Row 23))) []
unfolding writing image_of be_bytes be count_fits bad_count bad_row kind_fits bad_kind check_rows scan kind_of kinds versions limits count count_place place row_place field key_fields key_exists keys_exist
    every parent_rule scope_rule initial_rule reactor_rule own_rule row_rule
broken_row = refl

-- a row's byte too many: 1, before the rows are looked at
pub rows_unfit : writing counts (1 ∷ rows) [] ≡ wrote (Err (refusals.Image Unfilled)) []
unfolding writing image_of be_bytes be count_fits bad_count scan kind_of kinds versions limits count count_place place
rows_unfit = refl

-- no reactor: 3 at its count, before the rows are
pub no_reactor : writing (0 ∷ 1 ∷ 0 ∷ 0 ∷ 0 ∷ 0 ∷ 0 ∷ 0 ∷ 0 ∷ 0 ∷ 0 ∷ 0 ∷ 0 ∷ 0 ∷ 0 ∷ 0 ∷ 0 ∷ 0 ∷ []) [] [] ≡ wrote (Err (refusals.Image (Count 7))) []
unfolding writing image_of be_bytes be count_fits bad_count scan kind_of kinds versions limits count count_place
no_reactor = refl

-- a byte of the counts is missing
pub counts_short : writing (1 ∷ []) rows (room 35) ≡ wrote (Err (refusals.Image Short)) (room 35)
unfolding writing
counts_short = refl

-- action 2, one hour, microstep 3, as numbers of eight bytes behind nine counts: a timer's row
abbrev hour : List ℕ
hour = replicate 72 0 ++ (be_bytes 8 2 ++ (be_bytes 8 (3600 * 1000000000) ++ be_bytes 8 3))

pub one_hour : row_bytes timer hour 0 ≡ 0 ∷ 2 ∷ 0x00 ∷ 0x00 ∷ 0x03 ∷ 0x46 ∷ 0x30 ∷ 0xB8 ∷ 0xA0 ∷ 0x00 ∷ 0 ∷ 0 ∷ 0 ∷ 3 ∷ []
unfolding row_bytes number_at be be_bytes fields_of field_table
one_hour = refl
