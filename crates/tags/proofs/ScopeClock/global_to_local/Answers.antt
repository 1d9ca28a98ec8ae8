-- `tags::ScopeClock::global_to_local` meets its contract. Assumes nothing.
use mathlib.Core.Path.{◌∙◌}
use Rattle.std.proofs.lemmas.Result.{err_from_is_err_and}
use Rattle.tags.proofs.Laws.{checked_err, checked_ok}
use Rattle.tags.specs.Tags.{global_to_local}
use Rattle.tags.proofs.ScopeClock.global_to_local.Goals as goal

pub returns-in_err-check : goal.returns-in_err-check
unfolding global_to_local
returns-in_err-check c =
    let p = err_from_is_err_and c.from_residual.result c.from_residual.ensures.1 in
    rw (p.1, p.2) (checked_err _ _ _ c.in_err-check.ensures)

pub returns : goal.returns
unfolding global_to_local
returns c = c.to_local.ensures ∙ checked_ok _ _ _ c.in_ok-check.ensures
