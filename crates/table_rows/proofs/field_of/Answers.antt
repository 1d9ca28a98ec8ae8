-- `table_rows::field_of` meets its contract. Assumes nothing.
use native.Mathlib.Omega.{arith}
use Rattle.table_rows.proofs.Laws.{field_first, field_second, field_third}
use Rattle.table_rows.proofs.field_of.Goals as goal
use Rattle.table_rows.proofs.field_of.Goals.{in-0, in-1, in_default}

pub returns : goal.returns
returns c =
    let fields = c.fields_at-fields.ensures.0 in
    elim c.match-f.branch [
      | in-0 w ↦ field_first _ _ _ _ fields w.in-0.is (rw w.offset-is at c.field_place.ensures) (rw w.offset-is at c.number.ensures.0)
      | in-1 w ↦ field_second _ _ _ _ fields w.in-1.is (rw w.offset-is at c.field_place.ensures) (rw w.offset-is at c.number.ensures.0)
      | in_default w ↦ field_third _ _ _ _ fields (λ e. omega arith) (λ e. omega arith) (rw w.offset-is at c.field_place.ensures) (rw w.offset-is at c.number.ensures.0)
    ]
