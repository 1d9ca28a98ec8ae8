-- `table_writer::put_rows` meets its contract: one kind more a turn. Assumes nothing.
use native.Mathlib.Omega.{arith}
use borrow.Author.Rules.{rules}
use Rattle.table_writer.proofs.NumbersLaws.{none_before, no_kinds, before_next, one_kind_more}
use Rattle.table_writer.proofs.put_rows.Goals as goal

pub loop-k-init : goal.loop-k-init
loop-k-init c = (search rules, none_before _, no_kinds _ _ (search rules))

pub loop-k-preserved : goal.loop-k-preserved
loop-k-preserved c = (
  omega (arith, c.loop-k.invariant.0),
  before_next _ _ c.loop-k.invariant.1 c.two_bytes-n.ensures,
  one_kind_more _ _ _ c.loop-k.invariant.1 c.two_bytes-n.ensures c.loop-k.invariant.2 c.put_rows_of-end.ensures,
)
