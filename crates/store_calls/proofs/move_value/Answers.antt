-- `store_calls::move_value` meets its contract: equal tags, not held, no room for a bucket, or a take and then a push. Assumes nothing.
use Rattle.tags.specs.Views.{of_global}
use Rattle.tags.proofs.Orders.{told_same}
use Rattle.store_calls.proofs.Calls.{left_limit, move_done, move_full, move_none, move_same}
use borrow.Author.Rules.{rules}
use Rattle.store_calls.proofs.move_value.Goals as goal

pub returns-then-eq : goal.returns-then-eq
returns-then-eq c = let e = told_same (of_global c.args.old) (of_global c.args.new) c.eq.ensures in search move_same

pub returns-then-held-i : goal.returns-then-held-i
returns-then-held-i c = let e = told_same (of_global c.args.old) (of_global c.args.new) c.eq.ensures in search move_none

pub returns-then-limit-j : goal.returns-then-limit-j
returns-then-limit-j c = let e = told_same (of_global c.args.old) (of_global c.args.new) c.eq.ensures in search move_full

pub push-requires : goal.push-requires
push-requires c = record { values = search rules; buckets = search rules; few_values = search left_limit; few_buckets = search rules; room = search rules }

pub returns : goal.returns
returns c = let e = told_same (of_global c.args.old) (of_global c.args.new) c.eq.ensures in search move_done
