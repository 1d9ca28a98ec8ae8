-- `call_transition_resets::clear_actions` meets its contract: what stays, then blanks, of values and of buckets. Assumes nothing.
use Rattle.std.proofs.Common.{rules}
use Rattle.call_transition_resets.specs.Resetting.{clears_value, clears_bucket}
use Rattle.call_transition_resets.proofs.ResetLaws.{all_cleared}
use Rattle.call_transition_resets.proofs.clear_actions.Goals as goal

pub returns : goal.returns
returns c =
    let a = c.args in
    let values = c.lose-left.ensures (clears_value a.image.now a.inside.words) (λ v b e. search rules) in
    let buckets = c.lose-open.ensures (clears_bucket a.image.now a.inside.words) (λ x b e. search rules) in
    let whole = all_cleared a.image.now a.inside.words _ _ a.held c.requires _ _ values.0 values.1 buckets.0 buckets.1 in
    record { keeps = whole.0; result_value = whole.1 }
