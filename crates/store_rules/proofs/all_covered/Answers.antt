-- `store_rules::all_covered` meets its contract: invariant: all have a bucket if those from i on have. Assumes nothing.
use Rattle.store_rules.proofs.Laws.{every_on, every_fails, every_all}
use borrow.Author.Rules.{rules}
use Rattle.store_rules.proofs.all_covered.Goals as goal

pub loop-i-preserved : goal.loop-i-preserved
loop-i-preserved c = (search rules, search every_on)

pub returns-then-not-has_bucket : goal.returns-then-not-has_bucket
returns-then-not-has_bucket c = search every_fails

pub returns : goal.returns
returns c = search every_all
