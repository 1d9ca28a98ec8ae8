-- `call_push::placed` meets its contract. Assumes nothing.
use Rattle.std.proofs.Common.{sym, ap, ◌∙◌}
use Rattle.std.proofs.lemmas.Result.{err_from_is_err_and}
use Rattle.lists.specs.Walk.{done}
use Rattle.tags.specs.Views.{of_global}
use Rattle.state_scopes.specs.Scopes.{scopes_of}
use Rattle.call_push.proofs.PushLaws.{placed_root, placed_there, placed_refused}
use Rattle.call_push.proofs.placed.Goals as goal

pub returns-then-to_root : goal.returns-then-to_root
returns-then-to_root c =
    placed_root c.args.image.now (scopes_of c.args.scopes.now) c.args.p.action (of_global c.args.p.tag) c.args.p.terminal c.args.set.words
    (sym c.to_root.ensures ∙ c.if-to_root.true) (ap done (rw c.of_global-own.ensures at c.action_slot.ensures))

pub returns-in_err-x : goal.returns-in_err-x
returns-in_err-x c =
    let p = err_from_is_err_and c.from_residual.result c.from_residual.ensures.1 in
    rw (p.1, p.2)
    (placed_refused c.args.image.now (scopes_of c.args.scopes.now) c.args.p.action (of_global c.args.p.tag) c.args.p.terminal c.args.set.words
    (sym c.to_root.ensures ∙ c.if-to_root.false) (rw c.action_scope-scope.ensures at c.in_err-x.ensures))

pub returns : goal.returns
returns c =
    placed_there c.args.image.now (scopes_of c.args.scopes.now) c.args.p.action (of_global c.args.p.tag) c.args.p.terminal c.args.set.words
    (sym c.to_root.ensures ∙ c.if-to_root.false) (rw c.action_scope-scope.ensures at c.in_ok-x.ensures) (ap done (rw (c.action_scope-scope.ensures, c.of_local.ensures) at c.action_slot-2.ensures))
