-- Document 01's worked example, "plain (5,0), pop, pop", and records that are refused. Assumes nothing.
use Rattle.std.specs.Prelude.{◌≡◌, refl, false, List, [], ◌∷◌, ◌++◌, ℕ}
use Rattle.lists.specs.Rows.{tab}
use Rattle.table_rows.specs.Bytes.{be}
use Rattle.tags.specs.Tags.{at}
use Rattle.machine.specs.Machine.{plain, pop}
use Rattle.day_records.specs.Records.{call, malformed, cut, tag_at, is_bit, is_one, is_zero, keys_at, keys_fill, plain_of, network_of, control_of}
use Rattle.day_records.specs.Records.{action_of, transition_of, pop_of, op_of, body_of, length_of, length_at, record_at, records_in, records_from}

abbrev pub plain50 : List ℕ
plain50 = 0 ∷ 0 ∷ 0 ∷ 19 ∷ 1 ∷ 1 ∷ 0 ∷ 0 ∷ 0 ∷ 0 ∷ 0 ∷ 0 ∷ 0 ∷ 5 ∷ 0 ∷ 0 ∷ 0 ∷ 0 ∷ 0 ∷ 0 ∷ 1 ∷ 0 ∷ 0 ∷ []

abbrev pub popped : List ℕ
popped = 0 ∷ 0 ∷ 0 ∷ 2 ∷ 1 ∷ 6 ∷ []

-- a version that is not 1; then the day ends in the middle of a length
abbrev pub damaged : List ℕ
damaged = 0 ∷ 0 ∷ 0 ∷ 2 ∷ 2 ∷ 6 ∷ 0 ∷ 0 ∷ []

pub day : records_from (plain50 ++ (popped ++ popped)) 0 ≡ call (plain (at 5 0) false (0 ∷ [])) ∷ (call pop ∷ (call pop ∷ []))
unfolding records_from records_in record_at length_at length_of body_of op_of plain_of network_of control_of action_of transition_of pop_of keys_fill keys_at is_zero is_one is_bit tag_at tab be
day = refl

pub damage : records_from (popped ++ damaged) 0 ≡ call pop ∷ (malformed ∷ (cut ∷ []))
unfolding records_from records_in record_at length_at length_of body_of op_of plain_of network_of control_of action_of transition_of pop_of keys_fill keys_at is_zero is_one is_bit tag_at tab be
damage = refl
