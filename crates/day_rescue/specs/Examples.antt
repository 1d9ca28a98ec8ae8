-- Document 02, C-23, computed: bytes around a pop. Assumes nothing.
use Rattle.std.specs.Prelude.{◌≡◌, refl, [], ◌∷◌, ◌++◌}
use Rattle.lists.specs.Rows.{tab}
use Rattle.table_rows.specs.Bytes.{be}
use Rattle.day_records.specs.Records.{tag_at, is_bit, is_one, is_zero, keys_at, keys_fill, plain_of, network_of, control_of, action_of, transition_of, pop_of, op_of, body_of, length_of, length_at, record_at}
use Rattle.day_records.specs.Examples.{popped}
use Rattle.day_rescue.specs.Rescue.{run, walk_in, walk, rescue_from}

-- a pop between bytes that are none: two runs
pub between_rescued : rescue_from 7 (9 ∷ (9 ∷ (popped ++ (0 ∷ (0 ∷ (0 ∷ [])))))) ≡ record { kept = popped; records = 1; dropped = run 7 2 ∷ (run 15 3 ∷ []); at = 11; pending = run 18 0 }
unfolding rescue_from walk walk_in record_at length_at length_of body_of op_of plain_of network_of control_of action_of transition_of pop_of keys_fill keys_at is_zero is_one is_bit tag_at tab be
between_rescued = refl
