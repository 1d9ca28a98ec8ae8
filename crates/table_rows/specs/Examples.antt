-- Document 01, "Easy to get wrong": "Low-byte-first offsets: 0x0000034630B8A000 is one hour." Assumes nothing.
use Rattle.std.specs.Prelude.{◌≡◌, refl, [], ◌∷◌, ◌*◌}
use Rattle.table_rows.specs.Bytes.{be}

-- 3600 seconds of 10^9 nanoseconds
pub one_hour : be 8 (0x00 ∷ 0x00 ∷ 0x03 ∷ 0x46 ∷ 0x30 ∷ 0xB8 ∷ 0xA0 ∷ 0x00 ∷ []) 0 ≡ 3600 * 1000000000
unfolding be
one_hour = refl
