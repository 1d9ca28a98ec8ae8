-- `call_transition_events::accept` meets its contract. Assumes nothing.
use Rattle.std.proofs.lemmas.Result.{err_from_is_err_and}
use Rattle.call_transition_events.proofs.StartLaws.{work_fits, accept_count, accept_refused}
use Rattle.call_transition_events.proofs.accept.Goals as goal

pub more_work-work-requires : goal.more_work-work-requires
more_work-work-requires c = work_fits _ _ c.requires

pub returns-in_err-waiting-clause-steps : goal.returns-in_err-waiting-clause-steps
returns-in_err-waiting-clause-steps c =
    let p = err_from_is_err_and c.from_residual.result c.from_residual.ensures.1 in
    rw (p.1, p.2) (accept_refused _ _ c.requires _ _ c.most_waiting-limit.ensures c.accept.ensures.held c.accept.ensures.value _ c.in_err-waiting.was)

pub returns-clause-steps : goal.returns-clause-steps
returns-clause-steps c =
    accept_count _ _ c.requires _ _ c.most_waiting-limit.ensures c.accept.ensures.held c.accept.ensures.value c.in_ok-waiting.was c.more_work-work.ensures
