-- `state_scopes::put_scope` meets its contract: the words that it puts are those of the row, and past the last row it changes nothing. Assumes nothing.
use mathlib.Core.Path.{◌∙◌}
use native.Mathlib.Omega.{arith}
use Rattle.state_scopes.specs.Scopes.{scope_of, encode}
use Rattle.state_scopes.proofs.ScopeLaws.{Proper, put_none, put_there}
use borrow.Author.Rules.{rules}
use Rattle.state_scopes.proofs.put_scope.Goals as goal

pub returns-then-k-ge-MOST_SCOPES : goal.returns-then-k-ge-MOST_SCOPES
returns-then-k-ge-MOST_SCOPES c = put_none c.args.rows.now c.args.k (scope_of c.args.s) c.requires c.if-k-ge-MOST_SCOPES.true

pub returns : goal.returns
unfolding encode
returns c =
    let p : Proper (scope_of c.args.s) = record { global = search rules; local = search rules; suspended = search rules } in
    put_there c.args.rows.now c.args.k (scope_of c.args.s) c.requires p (search rules) (omega arith) (omega arith)
    (c.copy_from_slice.ensures.after ∙ rw (c.marks_word.ensures, c.from.ensures, c.from-2.ensures, c.from-3.ensures))
