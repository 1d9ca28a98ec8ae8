-- `call_transition_plan::scopes_where` meets its contract: the scopes before i are marked. Assumes nothing.
use Rattle.std.proofs.Common.{◌<◌, arith}
use Rattle.state_scopes.specs.Scopes.{most_scopes}
use Rattle.state_room.specs.Holds.{most_scopes_lem}
use Rattle.call_transition_plan.proofs.PlanLaws.{marks_none, marks_more}
use Rattle.call_transition_plan.proofs.scopes_where.Goals as goal

pub loop-i-init : goal.loop-i-init
loop-i-init g c = λ test h. rw c.empty-set.ensures (marks_none test)

pub loop-i-preserved : goal.loop-i-preserved
loop-i-preserved g c = λ test h.
    let few : c.loop-i.i < most_scopes = omega (arith, c.count-i-end.ensures, most_scopes_lem c.args.image.now c.requires.image_value) in
    marks_more test _ _ _ _ few (c.loop-i.invariant test h) (h _ _ c.passes.ensures) c.insert_if-set.ensures
