-- `manager::Manager::has_nonterminal_work` meets its contract: the count as a yes or no. Assumes nothing.
use mathlib.Core.Path.{◌∙◌, ap}
use Rattle.manager.specs.Views.{arrays_of, some_work}
use Rattle.manager.specs.Arrays.{answered}
use Rattle.manager.proofs.Manager.has_nonterminal_work.Goals as goal

pub returns : goal.returns
returns c =
    let r = c.ask_of-r in
    ap (λ x. answered x (arrays_of r.result.manager)) c.some_work.ensures ∙ ap some_work r.ensures
