-- `table_schedule::is_active` meets its contract: each step goes up to a lower scope. Assumes nothing.
use mathlib.Core.Path.{◌∙◌}
use borrow.Author.Tests.{le-leb}
use Rattle.lists.specs.Tests.{flag}
use Rattle.table_schedule.proofs.Laws.{active_not, active_on, active_end}
use Rattle.table_schedule.proofs.+is_active.Goals as goal

pub returns-then-not-is_current : goal.returns-then-not-is_current
returns-then-not-is_current t c = active_not _ _ _ (flag c.is_current.ensures c.if-not-is_current.true)

pub returns-then-i-above : goal.returns-then-i-above
returns-then-i-above t c =
    le-leb _ _ c.if-i-above.true ∙ active_end _ _ _ (flag c.is_current.ensures c.if-not-is_current.false) c.parent-above.ensures c.if-i-above.true

pub returns-else-i-above : goal.returns-else-i-above
returns-else-i-above t c =
    active_on _ _ _ (flag c.is_current.ensures c.if-not-is_current.false) c.parent-above.ensures c.if-i-above.false c.is_active.ensures
