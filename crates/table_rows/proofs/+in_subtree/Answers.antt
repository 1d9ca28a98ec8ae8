-- `table_rows::in_subtree` meets its contract: each step goes up to a lower scope. Assumes nothing.
use mathlib.Core.Path.{◌∙◌}
use borrow.Author.Tests.{le-ltb}
use Rattle.table_rows.specs.Lineage.{subtrees, subtree_end}
use Rattle.table_rows.proofs.+in_subtree.Goals as goal

pub returns-then-i-top : goal.returns-then-i-top
returns-then-i-top t c = search subtrees

pub returns-then-above-i : goal.returns-then-above-i
returns-then-above-i t c = search subtrees

pub returns-else-above-i : goal.returns-else-above-i
returns-else-above-i t c = le-ltb _ _ c.if-above-i.false ∙ subtree_end _ _ _ c.if-i-top.false c.parent-above.ensures c.if-above-i.false
