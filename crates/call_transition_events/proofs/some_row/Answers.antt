-- `call_transition_events::some_row` meets its contract: no row so far has a key of the set. Assumes nothing.
use Rattle.std.proofs.Common.{sym, ◌∙◌}
use Rattle.lists.specs.Steps.{any_next, any_found, any_none}
use Rattle.lists.specs.Marks.{any_no}
use Rattle.key_set.proofs.Laws.{empty_has}
use Rattle.call_transition_plan.proofs.PlanLaws.{row_has}
use Rattle.call_transition_events.specs.Starting.{row_in}
use Rattle.call_transition_events.proofs.some_row.Goals as goal

pub returns-then-is_empty : goal.returns-then-is_empty
returns-then-is_empty c =
    let a = c.args in
    sym (any_no (row_in a.image.now a.kind a.set.words) (λ j. empty_has a.set.words (sym c.is_empty.ensures ∙ c.if-is_empty.true) _) _)

pub returns-then-contains : goal.returns-then-contains
returns-then-contains c =
    let a = c.args in
    let found = any_found (row_in a.image.now a.kind a.set.words) _ _ (rw c.count-j-end.ensures at c.loop-j-test.true) in
    sym (c.loop-j.invariant ∙ found (row_has _ c.field16.ensures c.contains.ensures c.if-contains.true))

pub loop-j-preserved : goal.loop-j-preserved
loop-j-preserved c =
    let a = c.args in
    let next = any_next (row_in a.image.now a.kind a.set.words) _ _ (rw c.count-j-end.ensures at c.loop-j-test.true) in
    c.loop-j.invariant ∙ next (row_has _ c.field16.ensures c.contains.ensures c.if-contains.false)

pub returns : goal.returns
returns c =
    let a = c.args in
    sym (c.loop-j.invariant ∙ any_none (row_in a.image.now a.kind a.set.words) _ _ (rw c.count-j-end.ensures at c.loop-j-test.false))
