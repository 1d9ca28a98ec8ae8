-- `state_rules::modes_exist` meets its contract. Assumes nothing.
use Rattle.std.specs.Prelude.{◌≡◌, true, false}
use Rattle.std.proofs.Common.{rules}
use Rattle.std.proofs.lemmas.Iterator.{cases_from_all, YieldsList-from_slice}
use borrow.Author.Tests.{tests}
use Rattle.machine.specs.Machine.{mode_rules}
use Rattle.state_rules.proofs.Ranges.{all_of}
use Rattle.state_rules.proofs.modes_exist.Goals as goal

pub returns : goal.returns
returns c =
    let img = c.args.image.now in
    all_of (mode_rules img) c.args.modes.now _
    (cases_from_all _ _ _ (λ m. mode_rules img m ≡ true) (λ m. mode_rules img m ≡ false) c.all.ensures.ran (YieldsList-from_slice c.args.modes.now cc)
    (λ x q k. search (rules, tests)) (λ x q k. search (rules, tests)))
