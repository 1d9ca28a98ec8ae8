-- `table_rows::under` meets its contract. Assumes nothing.
use mathlib.Core.Path.{◌∙◌}
use borrow.Author.Tests.{le-ltb}
use Rattle.table_rows.specs.Lineage.{subtrees, under_end}
use Rattle.table_rows.proofs.under.Goals as goal

pub returns-then-above-i : goal.returns-then-above-i
returns-then-above-i c = search subtrees

pub returns-else-above-i : goal.returns-else-above-i
returns-else-above-i c = le-ltb _ _ c.if-above-i.false ∙ under_end _ _ _ c.parent-above.ensures c.if-above-i.false
