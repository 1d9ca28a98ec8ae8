-- `state_fresh::scopes` meets its contract: the scopes before i stand. Assumes nothing.
use mathlib.Core.Path.{ap, ◌∙◌}
use Rattle.machine.specs.State.{fresh_scope}
use Rattle.state_fresh.proofs.FreshLaws.{scopes_none, scopes_more}
use borrow.Author.Rules.{rules}
use Rattle.state_fresh.proofs.scopes.Goals as goal

pub loop-i-init : goal.loop-i-init
loop-i-init c = (search rules, c.count-n.ensures, scopes_none _ c.blank_rows-out.ensures)

pub loop-i-preserved : goal.loop-i-preserved
loop-i-preserved c =
    let l = c.loop-i in
    (search rules, l.invariant.1, scopes_more _ l.i _ l.out _ l.invariant.2 (c.fresh-s.ensures ∙ ap fresh_scope c.is_active-active.ensures) (rw c.from.ensures at c.put_scope.ensures))
