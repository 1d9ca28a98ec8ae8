-- `state_heads::is_held` meets its contract. Assumes nothing.
use Rattle.state_heads.proofs.HeadsLaws.{held_root, held_scope}
use Rattle.state_heads.proofs.is_held.Goals as goal

pub returns-then-h-eq-NONE : goal.returns-then-h-eq-NONE
returns-then-h-eq-NONE c = held_root _ _ _ c.if-h-eq-NONE.true

pub returns : goal.returns
returns c = held_scope _ _ _ c.if-h-eq-NONE.false (rw c.from.ensures at c.scope_at-s.ensures) c.as_local.ensures c.to_global.ensures c.is_held.ensures
