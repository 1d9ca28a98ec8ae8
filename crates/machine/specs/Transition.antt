-- Document 01, "A transition (reactor, target, kind, current tag c), in order": its five steps. Assumes nothing.
use Rattle.std.specs.Prelude.{ℕ, Bool, true, false, cond, not, ◌&&◌, ◌||◌, List, [], ◌∷◌, map, eqb, get_or, set}
use Rattle.lists.specs.Lists.{keep, any, every, from, foldl, sort_by}
use Rattle.lists.specs.Walk.{Result, done, refused, ◌>>=◌, walk}
use Rattle.refusals.specs.declared.Refusal.{Refusal}
use Rattle.refusals.specs.declared.Refusal.TheVariants as R
use Rattle.table_rows.specs.Bytes.{Image}
use Rattle.table_rows.specs.Kinds as K
use Rattle.table_rows.specs.Kinds.{count}
use Rattle.table_rows.specs.Limits.{limits}
use Rattle.table_rows.specs.Rows.{none, root_scope, initial_mode, mode_scope, action_scope, is_logical, startup_scope, startup_action, reset_scope, timer_action}
use Rattle.table_rows.specs.Lineage.{in_subtree, under}
use Rattle.table.specs.Rules.{timer_tag}
use Rattle.tags.specs.Tags.{Tag, Clock, Answer, zero_tag, earlier, delayed, to_local, image_of}
use Rattle.store.specs.Store as S
use Rattle.store.specs.Store.{Store}
use Rattle.table_schedule.specs.Schedule.{is_active, triggers_of, startups_of, resets_of}
use Rattle.machine.specs.Table.{scopes, reactors, actions}
use Rattle.machine.specs.State.{Event, Scope, State, scope_at, clock_at, ever_at, clocked, marked}
use Rattle.machine.specs.State.{with_modes, with_scopes, with_queue, with_store, accepted, without, stamped, in_queue, root_event}

abbrev pub Step : Type 0
Step = Result Refusal State

-- what a transition goes by: the tag c, the scopes of the reset subtree (none for a history transition), and those that are active from now on
pub record Plan : Type 0 where
  pub c : Tag
  pub inside : List Bool
  pub now : List Bool

abbrev pub is_inside : Plan → ℕ → Bool
is_inside p i = get_or p.inside i false

abbrev pub is_now : Plan → ℕ → Bool
is_now p i = get_or p.now i false

-- "the target scope's subtree, itself included"
abbrev pub inside_of : Image → Bool → ℕ → List Bool
inside_of img reset target = map (λ i. reset && in_subtree img target i) (from 0 (scopes img))

-- ---- 1. "Reset: over the target scope's subtree, itself included, drop all local events and set L and S to zero; clear the values
-- and buckets of its logical actions; put each reactor whose root scope is strictly under the target scope to its initial mode."

unfoldable pub dropped : List Bool → Event → Bool
dropped ins e = get_or ins e.queue false

abbrev pub zeroed : Clock → Clock
zeroed k = record { G = k.G; L = zero_tag; allowed = k.allowed; S = zero_tag }

unfoldable pub reset_scopes : List Bool → List Scope → List Scope
reset_scopes (true ∷ bs) (x ∷ l) = clocked (zeroed x.clock) x ∷ reset_scopes bs l
reset_scopes (false ∷ bs) (x ∷ l) = x ∷ reset_scopes bs l
reset_scopes [] l = l
reset_scopes (b ∷ bs) [] = []

unfoldable pub reset_store : Image → List Bool → Store → Store
reset_store img ins st =
    foldl (λ st a. cond (get_or ins (action_scope img a) false && is_logical img a) (S.cleared st a) st) st (from 0 (actions img))

unfoldable pub reset_modes : Image → ℕ → List ℕ → List ℕ
reset_modes img target modes = map (λ r. cond (under img target (root_scope img r)) (initial_mode img r) (get_or modes r none)) (from 0 (reactors img))

unfoldable pub step1 : Image → ℕ → List Bool → State → State
step1 img target ins s =
    let t = without (dropped ins) s in
    with_store (with_modes (with_scopes t (reset_scopes ins s.scopes)) (reset_modes img target s.modes)) (reset_store img ins s.store)

-- ---- 2. "Set the reactor's mode."

-- steps 1 and 2; a history transition resets nothing
unfoldable pub prepared : Image → ℕ → ℕ → Bool → State → State
prepared img r m reset s =
    let t = cond reset (step1 img (mode_scope img m) (inside_of img reset (mode_scope img m)) s) s in
    with_modes t (set t.modes r m)

-- ---- 3. "Scopes ascending."

-- "Going inactive: S is c mapped to local"; 02, C-14: "a scope in the reset subtree that goes inactive keeps S at zero", as step 1 has made it
abbrev pub suspended : Clock → Tag → Clock
suspended k t = record { G = k.G; L = k.L; allowed = k.allowed; S = t }

unfoldable pub leaving : Tag → Bool → Clock → Result Refusal Clock
leaving c inside k = cond inside (done k) (to_local k c >>= λ t. done (suspended k t))

-- "Going active: G = c, allowed no, L = S (zero in a reset subtree)": step 1 has made S zero there
abbrev pub activated : Tag → Clock → Clock
activated c k = record { G = c; L = k.S; allowed = false; S = k.S }

-- "Staying active in a reset subtree: G = c, L and S zero, allowed no."
abbrev pub restarted : Tag → Clock
restarted c = record { G = c; L = zero_tag; allowed = false; S = zero_tag }

unfoldable pub staying : Tag → Bool → Clock → Clock
staying c inside k = cond inside (restarted c) k

-- a scope's clock after its turn: was it active, is it now
unfoldable pub clock_after : Tag → Bool → Bool → Scope → Result Refusal Clock
clock_after c now inside x =
    cond x.active (cond now (done (staying c inside x.clock)) (leaving c inside x.clock))
    (done (cond now (activated c x.clock) x.clock))

abbrev pub is_tag : Answer → Bool
is_tag (done t) = true
is_tag (refused n) = false

abbrev pub tag_or : Tag → Answer → Tag
tag_or t (done u) = u
tag_or t (refused n) = t

-- "map its events"
unfoldable pub maps : ℕ → Clock → Event → Bool
maps i k e = not (in_queue i e) || is_tag (image_of k e.tag)

-- an event of scope i with an action
unfoldable pub owns : ℕ → Event → Bool
owns i e = in_queue i e && not (eqb e.action none)

-- "set their stored tags": the new stored tag of an event with an action, where scope i goes active by the clock k
unfoldable pub stamp : ℕ → Clock → Event → Tag
stamp i k e = cond (owns i e) (tag_or e.stored (image_of k e.tag)) e.stored

abbrev pub restamp : ℕ → Clock → Event → Event
restamp i k e = stamped e (stamp i k e)

-- "then move their values, later old tag first, ties by acceptance"
unfoldable pub is_later : Event → Event → Bool
is_later a b = earlier a.stored b.stored

unfoldable pub movers : ℕ → List Event → List Event
movers i es = sort_by is_later (keep (owns i) es)

unfoldable pub move_one : ℕ → ℕ → Clock → Store → Event → Result Refusal Store
move_one limit i k st e = S.moved limit st e.action e.stored (stamp i k e)

-- where no more than `limit` values, and no more buckets, may be held
unfoldable pub entering : ℕ → ℕ → Clock → List Event → Store → Result Refusal Store
entering limit i k es st = cond (every (maps i k) es) (walk (move_one limit i k) st (movers i es)) (refused R.MappedTag)

-- what one scope's turn changes: the scope, the waiting events and the store
pub record Turning : Type 0 where
  pub scope : Scope
  pub waiting : List Event
  pub store : Store

-- by its clock after the turn: a scope that goes active takes its events along
unfoldable pub turn_by : ℕ → Bool → ℕ → Scope → Clock → List Event → Store → Result Refusal Turning
turn_by limit now i x k es st =
    let y = marked now (clocked k x) in
    cond (now && not x.active)
    (entering limit i k es st >>= λ u. done (record { scope = y; waiting = map (restamp i k) es; store = u }))
    (done (record { scope = y; waiting = es; store = st }))

unfoldable pub one_turn : ℕ → Tag → Bool → Bool → ℕ → Scope → List Event → Store → Result Refusal Turning
one_turn limit c now inside i x es st = clock_after c now inside x >>= λ k. turn_by limit now i x k es st

abbrev pub with_turn : State → ℕ → Turning → State
with_turn s i t = with_store (with_queue (with_scopes s (set s.scopes i t.scope)) t.waiting s.work) t.store

unfoldable pub turned : Image → Plan → State → ℕ → Step
turned img p s i = one_turn (limits img).held p.c (is_now p i) (is_inside p i) i (scope_at s i) s.waiting s.store >>= λ t. done (with_turn s i t)

-- ---- 4. "If any scope active for the first time has startup rows: a 0 value per row at c delayed by zero; then one plain ordinary event
-- there, with its rows' reactions, for each first-time scope, those without rows included (empty set). Scopes active when fresh count as done."

unfoldable pub held : Image → ℕ → Tag → State → Step
held img a t s = S.pushed (limits img).held s.store a t 0 >>= λ st. done (with_store s st)

-- a plain ordinary event of the root
abbrev pub plain_event : Tag → List ℕ → Event
plain_event t set = root_event t set false false false

-- scopes active for the first time
unfoldable pub firsts : Image → Plan → State → List ℕ
firsts img p s = keep (λ i. is_now p i && not (ever_at s i)) (from 0 (scopes img))

unfoldable pub startup_rows : Image → List ℕ → List ℕ
startup_rows img first = keep (λ j. any (eqb (startup_scope img j)) first) (from 0 (count img K.startup))

unfoldable pub startups : Image → Tag → List ℕ → List ℕ → State → Step
startups img there first rows s =
    walk (λ t j. held img (startup_action img j) there t) s rows >>= λ t.
    walk (λ u i. accepted img u (plain_event there (startups_of img i))) t first

abbrev pub if_some : List ℕ → Step → Step → Step
if_some [] a b = a
if_some (j ∷ js) a b = b

unfoldable pub step4 : Image → Tag → List ℕ → State → Step
step4 img c first s =
    let rows = startup_rows img first in
    if_some rows (done s) (delayed c >>= λ there. startups img there first rows s)

-- ---- 5. "Reset: for each timer row whose action's scope is in the subtree, a 0 value at its global image and an ordinary event in that scope
-- at its local tag, stored tag that image, with the action's triggers. Then, if the subtree has reset rows, one plain ordinary event with their
-- reactions at c delayed by zero."

abbrev pub timer_scope : Image → ℕ → ℕ
timer_scope img j = action_scope img (timer_action img j)

-- by the scope's own clock: no restarted timer's scope runs on global time (02, C-19; `timer_parent` of machine_rules_kept)
unfoldable pub timer_image : Image → State → ℕ → Answer
timer_image img s j = image_of (clock_at s (timer_scope img j)) (timer_tag img j)

unfoldable pub timer_event : Image → ℕ → Tag → Event
timer_event img j g =
    record {
      queue = timer_scope img j;
      tag = timer_tag img j;
      reactions = triggers_of img (timer_action img j);
      terminal = false;
      control = false;
      network = false;
      action = timer_action img j;
      stored = g;
    }

-- "a tag before its value, a value before its event"
unfoldable pub timer : Image → State → ℕ → Step
timer img s j = timer_image img s j >>= λ g. held img (timer_action img j) g s >>= λ t. accepted img t (timer_event img j g)

unfoldable pub timer_rows : Image → List Bool → List ℕ
timer_rows img ins = keep (λ j. get_or ins (timer_scope img j) false) (from 0 (count img K.timer))

unfoldable pub reset_rows : Image → List Bool → List ℕ
reset_rows img ins = keep (λ j. get_or ins (reset_scope img j) false) (from 0 (count img K.reset))

unfoldable pub reset_event : Image → Tag → ℕ → List ℕ → State → Step
reset_event img c target rows s = if_some rows (done s) (delayed c >>= λ there. accepted img s (plain_event there (resets_of img target)))

unfoldable pub step5 : Image → Tag → ℕ → List Bool → State → Step
step5 img c target ins s = walk (timer img) s (timer_rows img ins) >>= λ t. reset_event img c target (reset_rows img ins) t

-- ---- the whole

unfoldable pub plan_of : Image → Tag → List Bool → State → Plan
plan_of img c ins s = record { c = c; inside = ins; now = map (is_active img s.modes) (from 0 (scopes img)) }

-- steps 3 to 5
unfoldable pub turns_on : Image → ℕ → Plan → State → Step
turns_on img target p s =
    walk (turned img p) s (from 0 (scopes img)) >>= λ t.
    step4 img p.c (firsts img p s) t >>= λ u.
    step5 img p.c target p.inside u

unfoldable pub transition : Image → ℕ → ℕ → Bool → Tag → State → Step
transition img r m reset c s =
    let t = prepared img r m reset s in
    turns_on img (mode_scope img m) (plan_of img c (inside_of img reset (mode_scope img m)) t) t
