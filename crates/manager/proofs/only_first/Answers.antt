-- `manager::only_first` meets its contract. Assumes nothing.
use Rattle.manager.proofs.Front.{zeros_behind}
use Rattle.manager.proofs.only_first.Goals as goal

pub returns : goal.returns
returns c = zeros_behind _ _ _ c.min-end.ensures (c.fill.ensures.after (λ y e. e))
