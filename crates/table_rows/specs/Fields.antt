-- Document 01, "The table image": how many bytes each field of a row has. Assumes nothing.
use Rattle.std.specs.Prelude.{ℕ, zero, suc, ◌+◌, List, [], ◌∷◌, get_or}
use Rattle.table_rows.specs.Bytes.{Image}
use Rattle.table_rows.specs.Rows.{field}
use Rattle.table_rows.specs.declared.Fields.{Fields}

abbrev pub fields : ℕ → ℕ → ℕ → Fields
fields a b c = record { first = a; second = b; third = c }

-- "Row (bytes)": no row has more than three fields; 0 for one that a kind does not have
unfoldable pub field_table : List Fields
field_table =
    fields 2 2 2 ∷
    fields 2 2 0 ∷
    fields 2 2 0 ∷
    fields 1 0 0 ∷
    fields 2 1 0 ∷
    fields 2 2 0 ∷
    fields 2 2 2 ∷
    fields 2 2 0 ∷
    fields 2 8 4 ∷ []

unfoldable pub fields_of : ℕ → Fields
fields_of k = get_or field_table k (fields 0 0 0)

-- the bytes of field f, counted from 0, and where it begins
abbrev pub width_of : Fields → ℕ → ℕ
width_of q zero = q.first
width_of q (suc zero) = q.second
width_of q (suc (suc f)) = q.third

abbrev pub offset_of : Fields → ℕ → ℕ
offset_of q zero = 0
offset_of q (suc zero) = q.first
offset_of q (suc (suc f)) = q.first + q.second

-- field f of row i of the kind k; 0 for one that it does not have
unfoldable pub field_of : Image → ℕ → ℕ → ℕ → ℕ
field_of s k i f = field (width_of (fields_of k) f) s k i (offset_of (fields_of k) f)
