-- `call_push::local_tag` meets its contract. Assumes nothing.
use Rattle.std.specs.Prelude.{◌≡◌, get_or}
use Rattle.std.proofs.lemmas.Result.{err_from_is_err_and}
use Rattle.tags.specs.Views.{of_global}
use Rattle.state_scopes.specs.Scopes.{scopes_of, scope_of, blank}
use Rattle.call_push.proofs.PushLaws.{local_over, local_idle, local_maps, local_image}
use Rattle.call_push.proofs.local_tag.Goals as goal
use Rattle.call_push.proofs.local_tag.Goals.{else-s-via-then-s+else-is_err, else-s-via-else-s, After-scope_at-s}

-- the scope that was read
scope_is : (c : After-scope_at-s) → scope_of c.scope_at-s.result ≡ get_or (scopes_of c.args.scopes.now) c.args.i blank
scope_is c = rw c.from.ensures at c.scope_at-s.ensures

pub returns-in_err-x : goal.returns-in_err-x
returns-in_err-x c =
    let p = err_from_is_err_and c.from_residual.result c.from_residual.ensures.1 in
    rw (p.1, p.2) (local_over (scopes_of c.args.scopes.now) c.args.i (of_global c.args.t) _ (scope_is (goal.at.returns-in_err-x c).After-scope_at-s) c.in_err-x.ensures)

pub returns-then-is_err : goal.returns-then-is_err
returns-then-is_err c =
    local_image (scopes_of c.args.scopes.now) c.args.i (of_global c.args.t) _ (scope_is (goal.at.returns-then-is_err c).After-scope_at-s) _ c.in_ok-x.ensures
    c.to_global.result c.to_global.ensures c.is_err.ensures.value c.if-s.true c.if-is_err.true

pub returns : goal.returns
returns c =
    elim c.else-s.branch [
      | else-s-via-then-s+else-is_err w ↦
          local_maps (scopes_of c.args.scopes.now) c.args.i (of_global c.args.t) _ (scope_is (goal.at.returns c).After-scope_at-s) _ c.in_ok-x.ensures
          w.to_global.result w.to_global.ensures w.is_err.ensures.value w.if-s.true w.if-is_err.false
      | else-s-via-else-s w ↦ local_idle (scopes_of c.args.scopes.now) c.args.i (of_global c.args.t) _ (scope_is (goal.at.returns c).After-scope_at-s) _ c.in_ok-x.ensures w.if-s.false
    ]
