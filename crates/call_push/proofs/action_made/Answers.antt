-- `call_push::action_made` meets its contract. Assumes nothing.
use Rattle.std.proofs.Common.{◌∙◌}
use Rattle.std.proofs.lemmas.Result.{err_from_is_err_and}
use Rattle.lists.specs.Tests.{flag}
use Rattle.tags.specs.Views.{of_global}
use Rattle.call_push.specs.Pushes.{scope_for}
use Rattle.call_push.proofs.PushLaws.{action_none, action_key, action_tag, action_placed_lem}
use Rattle.call_push.proofs.action_made.Goals as goal

pub returns-then-count-p : goal.returns-then-count-p
returns-then-count-p c =
    action_none c.args.image.now (scope_for c.args.image.now c.args.scopes.now c.args.p.action) c.args.p.action (of_global c.args.p.tag) c.args.p.terminal _ _
    (rw c.count.ensures at c.if-count-p.true)

pub returns-in_err-set : goal.returns-in_err-set
returns-in_err-set c =
    let p = err_from_is_err_and c.from_residual.result c.from_residual.ensures.1 in
    let k = c.in_err-set.ensures in
    rw (p.1, p.2, k.1)
    (action_key c.args.image.now (scope_for c.args.image.now c.args.scopes.now c.args.p.action) c.args.p.action (of_global c.args.p.tag) c.args.p.terminal _ _
    (rw c.count.ensures at c.if-count-p.false) k.0)

pub returns-then-not-within : goal.returns-then-not-within
returns-then-not-within c =
    action_tag c.args.image.now (scope_for c.args.image.now c.args.scopes.now c.args.p.action) c.args.p.action (of_global c.args.p.tag) c.args.p.terminal _ _
    (rw c.count.ensures at c.if-count-p.false) c.in_ok-set.ensures.0 (flag c.within.ensures c.if-not-within.true)

pub returns : goal.returns
returns c =
    c.placed.ensures ∙ rw c.in_ok-set.ensures.1
    (action_placed_lem c.args.image.now (scope_for c.args.image.now c.args.scopes.now c.args.p.action) c.args.p.action (of_global c.args.p.tag) c.args.p.terminal _ _
    (rw c.count.ensures at c.if-count-p.false) c.in_ok-set.ensures.0 (flag c.within.ensures c.if-not-within.false))
