-- `state_rules::scopes_keep` meets its contract. Assumes nothing.
use Rattle.std.specs.Prelude.{◌≡◌, true, false, refl}
use Rattle.std.proofs.Common.{rules, ◌∙◌, arith, ap}
use Rattle.std.proofs.lemmas.Iterator.{cases_from_all, YieldsList-from_range}
use Rattle.std.specs.List.{range_with_len}
use Rattle.lists.specs.Lists.{every}
use Rattle.machine.specs.Machine.{scope_rules}
use Rattle.state_scopes.specs.Scopes.{scopes_of}
use Rattle.state_rules.proofs.Ranges.{all_of, numbers}
use Rattle.state_rules.proofs.scopes_keep.Goals as goal

pub returns : goal.returns
returns c =
    let keeps = scope_rules c.args.image.now c.args.modes.now (scopes_of c.args.scopes.now) in
    all_of keeps (range_with_len 0 c.args.n) _
    (cases_from_all _ _ _ (λ i. keeps i ≡ true) (λ i. keeps i ≡ false) c.all.ensures.ran (YieldsList-from_range 0 c.args.n c.args.n refl (omega arith))
    (λ x q k. search rules) (λ x q k. search rules)) ∙
    ap (every keeps) (numbers 0 c.args.n)
