-- `state_scopes::scope_at` meets its contract: the words that it reads are those of the row. Assumes nothing.
use Prim.Native.Nat.{◌+◌, ◌*◌}
use mathlib.Core.Path.{◌≡◌}
use native.Mathlib.Omega.{arith}
use Rattle.state_scopes.proofs.ScopeLaws.{read_past, read_there}
use Rattle.state_scopes.specs.Scopes.{decode, scope_words}
use Rattle.lists.specs.Rows.{tab}
use borrow.Author.Rules.{rules}
use Rattle.state_scopes.proofs.scope_at.Goals as goal

pub returns-then-k-ge-MOST_SCOPES : goal.returns-then-k-ge-MOST_SCOPES
returns-then-k-ge-MOST_SCOPES c = search read_past

pub returns : goal.returns
unfolding decode tab
returns c =
    let e : c.args.k * scope_words + 0 ≡ c.args.k * scope_words = omega arith in
    rw e at (read_there c.args.rows.now c.args.k (search rules))
