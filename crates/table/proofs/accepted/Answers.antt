-- `table::accepted` meets its contract. Assumes nothing.
use Rattle.std.specs.Prelude.{◌≡◌, refl, Ok, Err, is_ok}
use mathlib.Core.Path.{ap, ◌∙◌}
use Rattle.table.specs.Check.{Checked, accepts, is_table}
use Rattle.table.proofs.accepted.Goals as goal

both : (c : Checked) → is_ok c ≡ accepts c
both (Ok u) = refl
both (Err n) = refl

pub returns : goal.returns
unfolding is_table
returns c = c.is_ok.ensures.value ∙ (both c.check.result ∙ ap accepts c.check.ensures)
