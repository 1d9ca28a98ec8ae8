-- `call_pop::peek_of` meets its contract. Assumes nothing.
use Rattle.std.proofs.Common.{sym, ◌∙◌}
use Rattle.tags.specs.Views.{of_global}
use Rattle.tags.proofs.Orders.{told_earlier}
use Rattle.call_pop.proofs.PopLaws.{peek_earlier, peek_later}
use Rattle.call_pop.proofs.peek_of.Goals as goal

pub returns-then-lt : goal.returns-then-lt
returns-then-lt c =
    let a = c.in-Some-Some in
    peek_earlier _ _ a.is-0 a.is-1 (sym (told_earlier (of_global a.y.tag) (of_global a.x.tag) c.lt.ensures) ∙ c.if-lt.true)

pub returns-else-lt : goal.returns-else-lt
returns-else-lt c =
    let a = c.in-Some-Some in
    peek_later _ _ a.is-0 a.is-1 (sym (told_earlier (of_global a.y.tag) (of_global a.x.tag) c.lt.ensures) ∙ c.if-lt.false)
