-- `tags::is_held_back` meets its contract. Assumes nothing.
use Rattle.tags.specs.Tags.{at}
use Rattle.tags.specs.Views.{of_global}
use Rattle.tags.proofs.Laws.{held_before, held_same, held_not}
use Rattle.tags.proofs.Orders.{told_same, told_earlier}
use Rattle.tags.proofs.is_held_back.Goals as goal

pub returns-then-lt : goal.returns-then-lt
returns-then-lt c =
    held_before _ _ _ c.in-At.is (told_earlier (at c.in-At.offset c.in-At.microstep) (of_global c.args.g) (rw c.from.ensures at c.lt.ensures)) c.if-lt.true

pub returns-then-eq : goal.returns-then-eq
returns-then-eq c =
    let l = told_earlier (at c.in-At.offset c.in-At.microstep) (of_global c.args.g) (rw c.from.ensures at c.lt.ensures) in
    let e = told_same (at c.in-At.offset c.in-At.microstep) (of_global c.args.g) (rw c.from.ensures at c.eq.ensures) in
    held_same _ _ _ c.in-At.is l e c.if-lt.false c.if-eq.true

pub returns-else-eq : goal.returns-else-eq
returns-else-eq c =
    let l = told_earlier (at c.in-At.offset c.in-At.microstep) (of_global c.args.g) (rw c.from.ensures at c.lt.ensures) in
    let e = told_same (at c.in-At.offset c.in-At.microstep) (of_global c.args.g) (rw c.from.ensures at c.eq.ensures) in
    held_not _ _ _ c.in-At.is l e c.if-lt.false c.if-eq.false
