-- `tags::ScopeClock::local_to_global` meets its contract. Assumes nothing.
use mathlib.Core.Path.{◌∙◌}
use Rattle.std.proofs.lemmas.Result.{err_from_is_err_and}
use Rattle.tags.proofs.Laws.{checked_err, checked_ok}
use Rattle.tags.specs.Tags.{local_to_global}
use Rattle.tags.proofs.ScopeClock.local_to_global.Goals as goal

pub returns-in_err-check : goal.returns-in_err-check
unfolding local_to_global
returns-in_err-check c =
    let p = err_from_is_err_and c.from_residual.result c.from_residual.ensures.1 in
    rw (p.1, p.2) (checked_err _ _ _ c.in_err-check.ensures)

pub returns : goal.returns
unfolding local_to_global
returns c = c.to_global.ensures ∙ checked_ok _ _ _ c.in_ok-check.ensures
