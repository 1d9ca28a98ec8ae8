-- `state_heads::scope_head_of` meets its contract. Assumes nothing.
use Rattle.state_heads.proofs.HeadsLaws.{scope_heads}
use Rattle.state_heads.proofs.scope_head_of.Goals as goal

pub returns-then-s : goal.returns-then-s
returns-then-s c = search scope_heads

pub returns-else-s : goal.returns-else-s
returns-else-s c = search scope_heads
