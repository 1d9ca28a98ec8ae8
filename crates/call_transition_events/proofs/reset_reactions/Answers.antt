-- `call_transition_events::reset_reactions` meets its contract. Assumes nothing.
use Rattle.std.proofs.Common.{sym, ◌∙◌}
use Rattle.std.proofs.lemmas.Result.{err_from_is_err_and}
use Rattle.call_transition_events.proofs.StartLaws.{resets_none, resets_made, resets_refused}
use Rattle.call_transition_events.proofs.reset_reactions.Goals as goal

pub returns-then-not-some_row-clause-steps : goal.returns-then-not-some_row-clause-steps
returns-then-not-some_row-clause-steps c = resets_none _ c.args.plan _ (sym c.some_row.ensures ∙ c.if-not-some_row.true)

pub returns-in_err-there-clause-steps : goal.returns-in_err-there-clause-steps
returns-in_err-there-clause-steps c =
    let e = sym c.some_row.ensures ∙ c.if-not-some_row.false in
    let p = err_from_is_err_and c.from_residual.result c.from_residual.ensures.1 in
    rw (p.1, p.2) (resets_refused _ c.args.plan _ e _ c.in_err-there.ensures)

pub returns-clause-steps : goal.returns-clause-steps
returns-clause-steps c =
    let e = sym c.some_row.ensures ∙ c.if-not-some_row.false in
    resets_made _ c.args.plan _ e _ _ c.in_ok-there.ensures c.resets.ensures c.plain-event.ensures c.accept.ensures.steps
