-- `state_heads::scope_head` meets its contract: the least of the scopes before i, one more a turn. Assumes nothing.
use mathlib.Core.Path.{sym}
use Rattle.state_heads.proofs.HeadsLaws.{sooner_none, looked_none, looked_next, looked_all}
use borrow.Author.Rules.{rules}
use Rattle.state_heads.proofs.scope_head.Goals as goal
use Rattle.state_heads.proofs.scope_head.Goals.{in-Some+then-is_sooner, in-Some+else-is_sooner, in_default}

pub loop-i-init : goal.loop-i-init
loop-i-init c = looked_none

pub loop-i-preserved : goal.loop-i-preserved
loop-i-preserved c =
    let l = c.loop-i in
    looked_next l.invariant c.head_in.result (search rules) c.head_in.ensures
    (elim c.match-head_in.branch [
      | in-Some+then-is_sooner w ↦ rw (w.best-is, w.in-Some.is) (sym (rw w.if-is_sooner.true at w.is_sooner.ensures))
      | in-Some+else-is_sooner w ↦ rw (w.best-is, w.in-Some.is) (sym (rw w.if-is_sooner.false at w.is_sooner.ensures))
      | in_default w ↦ rw (w.best-is, w.in_default.is) (sooner_none l.best)
    ])

pub returns : goal.returns
returns c = looked_all c.loop-i.invariant (search rules)
