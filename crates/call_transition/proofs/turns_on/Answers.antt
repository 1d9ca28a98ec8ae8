-- `call_transition::turns_on` meets its contract: step 3, and where it was done 4 and 5. Assumes nothing.
use Rattle.std.proofs.Common.{refl}
use Rattle.std.proofs.lemmas.Result.{err_from_is_err_and}
use Rattle.state_room.specs.Holds.{steps_then, steps_end}
use Rattle.call_transition_scopes.specs.Turns.{all_turns}
use Rattle.call_transition_events.specs.Starting.{startups_on, restarts_on}
use Rattle.call_transition.specs.Transiting.{starts_on}
use Rattle.call_transition.proofs.TransitLaws.{turns_steps}
use Rattle.call_transition.proofs.turns_on.Goals as goal

pub returns-in_err-turn_scopes : goal.returns-in_err-turn_scopes
returns-in_err-turn_scopes c =
    let a = c.args in
    let f = c.firsts-first in
    let p = err_from_is_err_and c.from_residual.result c.from_residual.ensures.1 in
    rw (p.1, p.2)
    (turns_steps a.image.now a.plan f.result.words _ f.ensures _ _
    (steps_end _ (all_turns a.image.now a.plan) (starts_on a.image.now a.plan f.result.words) _ _ _ _ _ c.in_err-turn_scopes.ensures.steps refl refl))

pub returns-in_err-startups : goal.returns-in_err-startups
returns-in_err-startups c =
    let a = c.args in
    let f = c.firsts-first in
    let start = startups_on a.image.now a.plan f.result.words in
    let p = err_from_is_err_and c.from_residual-in_err-startups.result c.from_residual-in_err-startups.ensures.1 in
    rw (p.1, p.2)
    (turns_steps a.image.now a.plan f.result.words _ f.ensures _ _
    (steps_then _ (all_turns a.image.now a.plan) (starts_on a.image.now a.plan f.result.words) _ _ _ _ _ c.in_ok-turn_scopes.ensures.steps refl
    (steps_end _ start (restarts_on a.image.now a.plan) _ _ _ _ _ c.in_err-startups.ensures.steps refl refl)))

pub returns : goal.returns
returns c =
    let a = c.args in
    let f = c.firsts-first in
    let start = startups_on a.image.now a.plan f.result.words in
    turns_steps a.image.now a.plan f.result.words _ f.ensures _ _
    (steps_then _ (all_turns a.image.now a.plan) (starts_on a.image.now a.plan f.result.words) _ _ _ _ _ c.in_ok-turn_scopes.ensures.steps refl
    (steps_then _ start (restarts_on a.image.now a.plan) _ _ _ _ _ c.in_ok-startups.ensures.steps refl c.restarts.ensures.steps))
