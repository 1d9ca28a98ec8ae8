-- `table_rows::fields_at` meets its contract: the code and the definition have the same table. Assumes nothing.
use mathlib.Core.Path.{refl}
use Rattle.table_rows.specs.Fields.{field_table, fields_of}
use Rattle.table_rows.proofs.Laws.{fields_past, first_le, second_le, third_le}
use borrow.Author.Rules.{rules}
use Rattle.table_rows.proofs.fields_at.Goals as goal

pub returns-then-k-lt-KINDS : goal.returns-then-k-lt-KINDS
unfolding field_table fields_of
returns-then-k-lt-KINDS c = (refl, first_le c.args.k, second_le c.args.k, third_le c.args.k)

pub returns-else-k-lt-KINDS : goal.returns-else-k-lt-KINDS
unfolding field_table
returns-else-k-lt-KINDS c = (fields_past c.args.k c.if-k-lt-KINDS.false, search rules, search rules, search rules)
