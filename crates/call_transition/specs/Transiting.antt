-- A transition in the parts that the code takes it in. Assumes nothing.
use Rattle.std.specs.Prelude.{cond, ◌&&◌, List, ℕ, ltb, eqb, Ok, Err}
use Rattle.lists.specs.Walk.{◌>>=◌}
use Rattle.refusals.specs.declared.Refusal.TheVariants as R
use Rattle.table_rows.specs.Bytes.{Image}
use Rattle.table_rows.specs.Rows.{mode_reactor}
use Rattle.tags.specs.Tags.{within}
use Rattle.tags.specs.Views.{of_global}
use Rattle.machine.specs.Table.{reactors, modes}
use Rattle.machine.specs.State.{State}
use Rattle.machine.specs.Transition as T
use Rattle.machine.specs.Transition.{Step}
use Rattle.machine.specs.Machine.{Call, transit}
use Rattle.state_room.specs.Holds.{Outcome}
use Rattle.call_transition_plan.specs.declared.Plan.{Plan}
use Rattle.call_transition_plan.specs.declared.Request.{Request}
use Rattle.call_transition_plan.specs.Plans.{plan_in}
use Rattle.call_transition_resets.specs.Resetting.{cleared}
use Rattle.call_transition_events.specs.Starting.{startups_on, restarts_on}

abbrev pub call_of : Request → Call
call_of q = transit q.reactor q.mode q.reset (of_global q.c)

-- "Order: .. 5, 10, 6": what is refused before anything changes
unfoldable pub refusal_of : Image → Request → Outcome
refusal_of img q =
    cond (ltb q.reactor (reactors img) && ltb q.mode (modes img))
    (cond (eqb (mode_reactor img q.mode) q.reactor) (cond (within (of_global q.c)) (Ok tt) (Err R.ArgumentTag)) (Err R.TargetMode))
    (Err R.Key)

-- steps 4 and 5, for the first-time scopes of a set
abbrev pub starts_on : Image → Plan → List ℕ → State → Step
starts_on img p set s = startups_on img p set s >>= restarts_on img p

-- steps 3 to 5
abbrev pub turns_on : Image → Plan → State → Step
turns_on img p s = T.turns_on img p.target (plan_in img p) s

-- steps 1 and 3 to 5; the modes are the plan's
abbrev pub steps_on : Image → Plan → State → Step
steps_on img p s = turns_on img p (cleared img (plan_in img p).inside s)
