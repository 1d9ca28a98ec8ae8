-- `state_rules::keys_exist` meets its contract: a key from n on is found or not. Assumes nothing.
use Rattle.std.specs.Prelude.{◌≡◌, length}
use Rattle.std.proofs.Common.{rules}
use Rattle.key_set.specs.Sets.{word_count}
use Rattle.state_rules.proofs.Parts.{keys_told}
use Rattle.state_rules.proofs.keys_exist.Goals as goal

pub returns : goal.returns
returns c =
    let l : length c.args.set.words ≡ word_count = search rules in
    keys_told c.args.set.words c.args.n _ _ l c.is_none.ensures (rw c.from.ensures at c.lowest_from.ensures)
