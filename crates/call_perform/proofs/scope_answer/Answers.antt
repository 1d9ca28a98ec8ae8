-- `call_perform::scope_answer` meets its contract: 5, or the mark. Assumes nothing.
use Rattle.std.specs.Prelude.{true, false}
use Rattle.call_perform.proofs.CallLaws.{mark_key, mark_is}
use Rattle.call_perform.proofs.scope_answer.Goals as goal

pub returns-then-count-i : goal.returns-then-count-i
returns-then-count-i c = let a = c.args in λ s h. mark_key a.image.now a.i c.count.ensures a.ever s c.if-count-i.true

pub returns-then-ever : goal.returns-then-ever
returns-then-ever c =
    let a = c.args in
    λ s h. rw c.if-ever.true (mark_is a.image.now a.i c.count.ensures true s a.scopes.now c.if-count-i.false _ (rw c.from.ensures at c.scope_at-s.ensures) h)

pub returns-else-ever : goal.returns-else-ever
returns-else-ever c =
    let a = c.args in
    λ s h. rw c.if-ever.false (mark_is a.image.now a.i c.count.ensures false s a.scopes.now c.if-count-i.false _ (rw c.from.ensures at c.scope_at-s.ensures) h)
