-- `table_rows::kind_at` meets its contract: the code and the definition have the same table. Assumes nothing.
use mathlib.Core.Path.{refl}
use Rattle.table_rows.specs.Kinds.{kinds, kind_of}
use Rattle.table_rows.proofs.Laws.{width_le, kind_past}
use borrow.Author.Rules.{rules}
use Rattle.table_rows.proofs.kind_at.Goals as goal

pub returns-then-k-lt-KINDS : goal.returns-then-k-lt-KINDS
unfolding kinds kind_of
returns-then-k-lt-KINDS c = (refl, width_le c.args.k)

pub returns-else-k-lt-KINDS : goal.returns-else-k-lt-KINDS
unfolding kinds
returns-else-k-lt-KINDS c = (kind_past c.args.k c.if-k-lt-KINDS.false, search rules)
