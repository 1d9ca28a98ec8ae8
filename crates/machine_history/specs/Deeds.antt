-- What the plain machine's calls do to events, in its own words: the events that a push and a transition make, the turns of a pop, what a reset drops.
-- Assumes nothing.
use Rattle.std.specs.Prelude.{ℕ, zero, suc, ◌≤◌, Bool, true, false, cond, ◌&&◌, ◌≡◌, refl, List, [], ◌∷◌, ◌++◌, map, ltb, length, get_or}
use Rattle.std.proofs.Common.{arith}
use Rattle.lists.specs.Lists.{foldl}
use Rattle.table_rows.specs.Bytes.{Image}
use Rattle.table_rows.specs.Rows.{mode_scope, action_scope}
use Rattle.table_rows.specs.Lineage.{in_subtree}
use Rattle.tags.specs.Tags.{Tag, zero_tag, same_tag, delayed}
use Rattle.table_schedule.specs.Schedule.{startups_of, resets_of}
use Rattle.machine.specs.Table.{scopes, set_of}
use Rattle.machine.specs.State.{Event, Scope, State, root, root_event, scope_at, stamped, at_head}
use Rattle.machine.specs.Heads.{Head, empty, head, Taking, untaken, take_at_of, take_scopes, taking, scope_head, root_head, is_at}
use Rattle.machine.specs.Transition.{tag_or, inside_of, prepared, plain_event, firsts, startup_rows, timer_event, timer_rows, reset_rows, plan_of}
use Rattle.machine.specs.Machine.{Call, plain, network, control, action, transit, pop, peek_tag, only_control, ordinary_work, active_now, ever_active, push_value, next_step, take_value, clear_before}
use Rattle.machine.specs.Machine.{move_value, clear_action, Reply, ok, refusal, nothing, ready, tag, flag, number, to_root, local_tag, action_event}

-- an event as it was accepted, but for its stored tag, which going active sets anew
abbrev pub bare : Event → Event
bare e = stamped e zero_tag

-- ---- the events that a call makes

-- "Push of an action: to the root if the table isn't modal, the action isn't logical, or its scope has no parent; else to its scope at the local tag."
abbrev pub action_pushed : Image → State → ℕ → Tag → Bool → List ℕ → Event
action_pushed img s a t terminal ks =
    cond (to_root img a) (action_event root a t t terminal (set_of ks))
    (action_event (action_scope img a) a (tag_or t (local_tag (scope_at s (action_scope img a)) t)) t terminal (set_of ks))

-- "c delayed by zero"
abbrev pub soon : Tag → Tag
soon c = tag_or c (delayed c)

abbrev pub when_some : List ℕ → List Event → List Event
when_some [] es = []
when_some (j ∷ js) es = es

-- step 4: "If any scope active for the first time has startup rows: .. one plain ordinary event there, with its rows' reactions, for each
-- first-time scope, those without rows included"
unfoldable pub startup_events : Image → Tag → List ℕ → List Event
startup_events img c first = when_some (startup_rows img first) (map (λ i. plain_event (soon c) (startups_of img i)) first)

-- step 5: "for each timer row whose action's scope is in the subtree, .. an ordinary event in that scope at its local tag"
unfoldable pub timer_events : Image → List Bool → List Event
timer_events img ins = map (λ j. timer_event img j zero_tag) (timer_rows img ins)

-- "Then, if the subtree has reset rows, one plain ordinary event with their reactions at c delayed by zero."
unfoldable pub reset_events : Image → Tag → ℕ → List Bool → List Event
reset_events img c target ins = when_some (reset_rows img ins) (plain_event (soon c) (resets_of img target) ∷ [])

-- the events of steps 4 and 5, in order, of a transition whose steps 1 and 2 gave the state t
abbrev pub events_on : Image → ℕ → List Bool → Tag → State → List Event
events_on img target ins c t = startup_events img c (firsts img (plan_of img c ins t) t) ++ (timer_events img ins ++ reset_events img c target ins)

unfoldable pub transition_events : Image → ℕ → ℕ → Bool → Tag → State → List Event
transition_events img r m reset c s = events_on img (mode_scope img m) (inside_of img reset (mode_scope img m)) c (prepared img r m reset s)

-- ---- what a reset drops

-- "over the target scope's subtree, itself included": the event lies in the queue of a scope of it
abbrev pub lies_in : Image → ℕ → Event → Bool
lies_in img top e = ltb e.queue (scopes img) && in_subtree img top e.queue

-- ---- what each call does to the events, if it is not refused

pub data Deed : Type 0 where
  -- those that pass are dropped, and then these come in
  accepts : (Event → Bool) → List Event → Deed
  hands_out : Deed
  leaves : Deed

abbrev pub no_event : Event → Bool
no_event e = false

-- a push makes the one event that it names; a transition drops the subtree's events if it is a reset, and makes those of its steps 4 and 5;
-- a pop hands out; any other call leaves them alone. Stored tags are left open
abbrev pub deed : Image → State → Call → Deed
deed img s (plain t terminal ks) = accepts no_event (root_event t (set_of ks) terminal false false ∷ [])
deed img s (network t ks) = accepts no_event (root_event t (set_of ks) false false true ∷ [])
deed img s (control t) = accepts no_event (root_event t (set_of []) false true false ∷ [])
deed img s (action a t terminal ks) = accepts no_event (bare (action_pushed img s a t terminal ks) ∷ [])
deed img s (transit r m reset c) = accepts (λ e. reset && lies_in img (mode_scope img m) e) (transition_events img r m reset c s)
deed img s pop = hands_out
deed img s peek_tag = leaves
deed img s only_control = leaves
deed img s ordinary_work = leaves
deed img s (active_now i) = leaves
deed img s (ever_active i) = leaves
deed img s (push_value a t v) = leaves
deed img s (next_step a o m) = leaves
deed img s (take_value a t) = leaves
deed img s (clear_before a t) = leaves
deed img s (move_value a t u) = leaves
deed img s (clear_action a) = leaves

abbrev pub made_by : Deed → List Event
made_by (accepts p es) = es
made_by hands_out = []
made_by leaves = []

abbrev pub drops : Deed → Event → Bool
drops (accepts p es) e = p e
drops hands_out e = false
drops leaves e = false

-- "pushed by a caller or made by a transition"
abbrev pub takes_in : Deed → Bool
takes_in (accepts p es) = true
takes_in hands_out = false
takes_in leaves = false

abbrev pub is_pop : Deed → Bool
is_pop (accepts p es) = false
is_pop hands_out = true
is_pop leaves = false

-- "refused ones counting as nothing"
abbrev pub if_ok : {A : Type 0} → A → A → Reply → A
if_ok a b ok = a
if_ok a b (refusal n) = b
if_ok a b nothing = b
if_ok a b (ready x) = b
if_ok a b (tag x) = b
if_ok a b (flag x) = b
if_ok a b (number x) = b

-- ---- the turns of a pop

-- the scope heads that `take_scopes` takes one after the other, "while the least scope head is t"
unfoldable pub scope_turns : ℕ → Image → List Scope → Tag → Taking → List Head
scope_turns zero img ss t k = []
scope_turns (suc n) img ss t k =
    let h = scope_head img ss k.waiting in
    cond (is_at t h) (h ∷ scope_turns n img ss t (take_at_of t k h)) []

-- the heads of a pop at peek tag t: turn 0 is the root's, and then the scopes'
unfoldable pub turns_of : Image → List Scope → Tag → Taking → List Head
turns_of img ss t k = root_head k.waiting ∷ scope_turns (length k.waiting) img ss t (take_at_of t k (root_head k.waiting))

-- a turn takes "all events at the least local tag" of its queue, if that head is t
abbrev pub takes_at : Tag → Head → Event → Bool
takes_at t empty e = false
takes_at t (head q x g) e = same_tag g t && at_head q x e

-- what turn r of a pop takes, where the peek is a head, or there is none
abbrev pub takes_in_turn : Image → State → Head → ℕ → Event → Bool
takes_in_turn img s empty r e = false
takes_in_turn img s (head q x t) r e = takes_at t (get_or (turns_of img s.scopes t (untaken s.waiting s.work)) r empty) e

-- these are the machine's turns: one after the other they take what its pop takes
scope_turns_take : (n : ℕ) (img : Image) (ss : List Scope) (t : Tag) (k : Taking) → foldl (take_at_of t) k (scope_turns n img ss t k) ≡ take_scopes n img ss t k
unfolding foldl scope_turns take_scopes
scope_turns_take zero img ss t k = refl
scope_turns_take (suc n) img ss t k =
    let h = scope_head img ss k.waiting in
    go (is_at t h) (scope_turns_take n img ss t (take_at_of t k h))
  where
    go : (b : Bool) → let h = scope_head img ss k.waiting in
        foldl (take_at_of t) (take_at_of t k h) (scope_turns n img ss t (take_at_of t k h)) ≡ take_scopes n img ss t (take_at_of t k h) →
        foldl (take_at_of t) k (cond b (h ∷ scope_turns n img ss t (take_at_of t k h)) []) ≡ cond b (take_scopes n img ss t (take_at_of t k h)) k
    go true r = r
    go false r = refl

pub turns_take : (img : Image) (ss : List Scope) (t : Tag) (k : Taking) → foldl (take_at_of t) k (turns_of img ss t k) ≡ taking img ss t k
unfolding foldl turns_of taking
turns_take img ss t k = scope_turns_take (length k.waiting) img ss t (take_at_of t k (root_head k.waiting))

-- no more of them than events wait, and the root's
scope_turns_few : (n : ℕ) (img : Image) (ss : List Scope) (t : Tag) (k : Taking) → length (scope_turns n img ss t k) ≤ n
unfolding scope_turns
scope_turns_few zero img ss t k = omega arith
scope_turns_few (suc n) img ss t k =
    let h = scope_head img ss k.waiting in
    go (is_at t h) h _ (scope_turns_few n img ss t (take_at_of t k h))
  where
    go : (b : Bool) (h : Head) (l : List Head) → length l ≤ n → length (cond b (h ∷ l) []) ≤ suc n
    go true h l r = omega arith
    go false h l r = omega arith

pub turns_few : (img : Image) (ss : List Scope) (t : Tag) (k : Taking) → length (turns_of img ss t k) ≤ suc (length k.waiting)
unfolding turns_of
turns_few img ss t k = let f = scope_turns_few (length k.waiting) img ss t (take_at_of t k (root_head k.waiting)) in omega arith
