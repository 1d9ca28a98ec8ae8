-- `call_transition::apply_transition` meets its contract: refused early, done, or refused late and all put back. Assumes nothing.
use Rattle.std.proofs.Common.{refl, ◌∙◌, sym, rules}
use Rattle.std.proofs.lemmas.Result.{err_from_is_err_and}
use Rattle.call_transition_plan.proofs.PlanLaws.{planned_inner}
use Rattle.call_transition.proofs.SavingLaws.{rows_few}
use Rattle.call_transition.proofs.TransitLaws.{modes_full, allowed_known, moded_held, moded_steps, early_refused, performs_done, performs_refused, outcome_ok, outcome_err}
use Rattle.call_transition.proofs.apply_transition.Goals as goal

pub plan_of-plan-requires-clause-modes_len : goal.plan_of-plan-requires-clause-modes_len
plan_of-plan-requires-clause-modes_len c = modes_full _ _ c.requires.held

pub plan_of-plan-requires-clause-reactor_bound : goal.plan_of-plan-requires-clause-reactor_bound
plan_of-plan-requires-clause-reactor_bound c = allowed_known c.args.image.now c.args.request (sym c.refusal_of.ensures ∙ c.in_ok-refusal_of.was)

pub steps-outcome-requires : goal.steps-outcome-requires
steps-outcome-requires c =
    let a = c.args in
    let p = c.plan_of-plan in
    record { inner = planned_inner a.image.now a.room.now.ledger.modes a.request p.result p.ensures; held = moded_held a.image.now a.room.now.ledger.modes a.request p.result p.ensures _ refl c.requires.held }

pub put_back-requires : goal.put_back-requires
put_back-requires c = (rows_few _ _ c.requires.held, search rules)

pub returns-in_err-refusal_of : goal.returns-in_err-refusal_of
returns-in_err-refusal_of c =
    let p = err_from_is_err_and c.from_residual.result c.from_residual.ensures.1 in
    rw (p.1, p.2) (early_refused c.args.image.now c.args.request _ c.in_err-refusal_of.ensures refl)

pub returns-then-is_err : goal.returns-then-is_err
returns-then-is_err c =
    let a = c.args in
    let p = c.plan_of-plan in
    let k = moded_steps a.image.now a.room.now.ledger.modes a.request p.result p.ensures _ refl _ _ c.steps-outcome.ensures in
    let e = outcome_err c.steps-outcome.result (sym c.is_err.ensures.value ∙ c.if-is_err.true) in
    performs_refused a.image.now a.request c.refusal_of.ensures c.in_ok-refusal_of.was _ _ _ k (c.put_back.ensures ∙ c.save.ensures) e.1

pub returns-else-is_err : goal.returns-else-is_err
returns-else-is_err c =
    let a = c.args in
    let p = c.plan_of-plan in
    let k = moded_steps a.image.now a.room.now.ledger.modes a.request p.result p.ensures _ refl _ _ c.steps-outcome.ensures in
    let e = outcome_ok c.steps-outcome.result (sym c.is_err.ensures.value ∙ c.if-is_err.false) in
    performs_done a.image.now a.request c.refusal_of.ensures c.in_ok-refusal_of.was _ _ _ k e
