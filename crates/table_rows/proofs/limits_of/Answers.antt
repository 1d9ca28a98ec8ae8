-- `table_rows::limits_of` meets its contract: the code and the definition have the same table, by the same version. Assumes nothing.
use native.Mathlib.Omega.{arith}
use Rattle.table_rows.specs.Limits.{versions}
use Rattle.table_rows.proofs.Laws.{limits_none, limits_row, limits_past}
use Rattle.table_rows.proofs.limits_of.Goals as goal
use Rattle.table_rows.proofs.limits_of.Goals.{else-version-ge1-via-then-version-ge1+else-version-le-VERSIONS, else-version-ge1-via-else-version-ge1}

pub returns-then-version-le-VERSIONS : goal.returns-then-version-le-VERSIONS
unfolding versions
returns-then-version-le-VERSIONS c = limits_row _ c.one_byte-version.ensures _ (omega arith)

pub returns-else-version-ge1 : goal.returns-else-version-ge1
unfolding versions
returns-else-version-ge1 c =
    elim c.else-version-ge1.branch [
      | else-version-ge1-via-then-version-ge1+else-version-le-VERSIONS w ↦ limits_past _ c.one_byte-version.ensures (omega arith)
      | else-version-ge1-via-else-version-ge1 w ↦ limits_none _ c.one_byte-version.ensures (omega arith)
    ]
