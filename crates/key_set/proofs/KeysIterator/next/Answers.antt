-- `next` of the keys of a set meets its contract: the lowest key from `at` on is given, and those above it are left. Assumes nothing.
use native.Mathlib.Omega.{arith}
use borrow.Author.Rules.{rules}
use mathlib.Core.Path.{ap}
use lib.ListN.{length}
use Rattle.key_set.specs.Sets.{word_count}
use Rattle.key_set.proofs.Laws.{lowest_key, lowest_range, lowest_none}
use Rattle.key_set.proofs.KeysIterator.next.Goals as goal

pub returns-in_err-k-clause-steps : goal.returns-in_err-k-clause-steps
returns-in_err-k-clause-steps c = let e = lowest_none _ _ c.in_err-k.ensures in rw c.from_residual.ensures (e, e)

pub overflow_add-self : goal.overflow_add-self
overflow_add-self c = let r = lowest_range _ _ word_count (search rules) c.in_ok-k.ensures in omega (arith, r.1)

pub returns-clause-steps : goal.returns-clause-steps
returns-clause-steps c = (lowest_key _ _ c.in_ok-k.ensures).on

pub returns-clause-goes : goal.returns-clause-goes
returns-clause-goes c = let e = ap length (lowest_key _ _ c.in_ok-k.ensures).on in search rules
