-- `call_transition_events::startups` meets its contract; where a startup is refused the ledger is put back. Assumes nothing.
use Rattle.std.proofs.Common.{sym, ◌∙◌}
use Rattle.std.proofs.lemmas.Result.{err_from_is_err_and}
use Rattle.call_transition_events.proofs.StartLaws.{startups_none, startups_all, startups_refused, steps_refused_by}
use Rattle.call_transition_events.proofs.startups.Goals as goal

pub returns-then-not-some_row-clause-steps : goal.returns-then-not-some_row-clause-steps
returns-then-not-some_row-clause-steps c = startups_none _ c.args.first c.args.plan _ (sym c.some_row.ensures ∙ c.if-not-some_row.true)

pub returns-in_err-there-clause-steps : goal.returns-in_err-there-clause-steps
returns-in_err-there-clause-steps c =
    let e = sym c.some_row.ensures ∙ c.if-not-some_row.false in
    let p = err_from_is_err_and c.from_residual.result c.from_residual.ensures.1 in
    rw (p.1, p.2) (startups_refused _ c.args.first c.args.plan _ e _ c.in_err-there.ensures)

pub returns-in-Err-clause-steps : goal.returns-in-Err-clause-steps
returns-in-Err-clause-steps c =
    let e = sym c.some_row.ensures ∙ c.if-not-some_row.false in
    steps_refused_by _ _ _ _ _ _ (startups_all _ c.args.first c.args.plan _ e _ _ c.in_ok-there.ensures c.in-Err.ensures.steps)

pub returns-clause-steps : goal.returns-clause-steps
returns-clause-steps c =
    let e = sym c.some_row.ensures ∙ c.if-not-some_row.false in
    startups_all _ c.args.first c.args.plan _ e _ _ c.in_ok-there.ensures c.in_default.ensures.steps
