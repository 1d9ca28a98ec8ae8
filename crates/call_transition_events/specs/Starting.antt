-- Steps 4 and 5 by the code's plan, and in the parts that the code takes them in. Assumes nothing.
use Rattle.std.specs.Prelude.{Bool, cond, not, ◌&&◌, List, ℕ, get_or}
use Rattle.lists.specs.Lists.{any, keep, from}
use Rattle.lists.specs.Walk.{done, ◌>>=◌, walk}
use Rattle.table_rows.specs.Bytes.{Image}
use Rattle.table_rows.specs.Kinds as K
use Rattle.table_rows.specs.Kinds.{count}
use Rattle.table_rows.specs.Rows.{field, startup_scope, startup_action}
use Rattle.tags.specs.Tags.{Clock, Answer, image_of}
use Rattle.tags.specs.Views.{of_global}
use Rattle.table.specs.Rules.{timer_tag}
use Rattle.key_set.specs.Sets.{has}
use Rattle.table_schedule.specs.Schedule.{startups_of}
use Rattle.machine.specs.Table.{scopes}
use Rattle.machine.specs.State.{Event, State, accepted}
use Rattle.machine.specs.Transition.{Step, held, plain_event, step4, timer_scope, timer, timer_rows, reset_rows, reset_event, step5}
use Rattle.state_scopes.specs.Scopes.{scopes_of, blank}
use Rattle.call_transition_plan.specs.declared.Plan.{Plan}
use Rattle.call_transition_plan.specs.Plans.{plan_in}
use Rattle.call_transition_events.specs.declared.Chosen.{Chosen}

-- a scope is active now and never was before
abbrev pub first_time : List ℕ → List ℕ → ℕ → Bool
first_time now ws i = has now i && not (get_or (scopes_of ws) i blank).ever

-- the scopes of a set, ascending
abbrev pub keys_of : Image → List ℕ → List ℕ
keys_of img set = keep (has set) (from 0 (scopes img))

-- a row of the kind k has a key of the set in its first field; some row has
abbrev pub row_in : Image → ℕ → List ℕ → ℕ → Bool
row_in img k set j = has set (field 2 img k j 0)

abbrev pub some_row : Image → ℕ → List ℕ → Bool
some_row img k set = any (row_in img k set) (from 0 (count img k))

-- ---- step 4, for the scopes of a set

abbrev pub startups_on : Image → Plan → List ℕ → State → Step
startups_on img p set = step4 img (of_global p.c) (keys_of img set)

-- one row's part, one scope's part: nothing where it is not chosen
unfoldable pub value_step : Image → Chosen → State → ℕ → Step
value_step img f s j = cond (has f.set.words (startup_scope img j)) (held img (startup_action img j) (of_global f.there) s) (done s)

unfoldable pub event_step : Image → Chosen → State → ℕ → Step
event_step img f s i = cond (has f.set.words i) (accepted img s (plain_event (of_global f.there) (startups_of img i))) (done s)

-- ---- step 5

abbrev pub restarts_on : Image → Plan → State → Step
restarts_on img p = step5 img (of_global p.c) p.target (plan_in img p).inside

-- its timers, then its event
abbrev pub timers_on : Image → Plan → State → Step
timers_on img p s = walk (timer img) s (timer_rows img (plan_in img p).inside)

abbrev pub resets_on : Image → Plan → State → Step
resets_on img p = reset_event img (of_global p.c) p.target (reset_rows img (plan_in img p).inside)

-- one row's part: nothing where its scope is not in the set
unfoldable pub timer_step : Image → List ℕ → State → ℕ → Step
timer_step img set s j = cond (has set (timer_scope img j)) (timer img s j) (done s)

-- "a value before its event"
unfoldable pub put_step : Image → Event → State → Step
put_step img e s = held img e.action e.stored s >>= λ t. accepted img t e

-- a timer's global image by the rows' clocks
abbrev pub clock_in : List ℕ → ℕ → Clock
clock_in ws i = (get_or (scopes_of ws) i blank).clock

unfoldable pub image_in : Image → List ℕ → ℕ → Answer
image_in img ws j = image_of (clock_in ws (timer_scope img j)) (timer_tag img j)

-- ---- row by row

abbrev pub all_values : Image → Chosen → State → Step
all_values img f s = walk (value_step img f) s (from 0 (count img K.startup))

abbrev pub all_events : Image → Chosen → State → Step
all_events img f s = walk (event_step img f) s (from 0 (count img K.scope))

abbrev pub all_timers : Image → List ℕ → State → Step
all_timers img set s = walk (timer_step img set) s (from 0 (count img K.timer))

-- all values, then all events
abbrev pub startups_at : Image → Chosen → State → Step
startups_at img f s = all_values img f s >>= all_events img f
