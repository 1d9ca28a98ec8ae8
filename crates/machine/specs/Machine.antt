-- Document 01, "Numbers of refusal" and "The plain machine": the state rules, the calls, one step and a run. Assumes nothing.
use Rattle.std.specs.Prelude.{ℕ, ◌*◌, Bool, true, false, cond, not, ◌&&◌, ◌||◌, List, [], ◌∷◌, ltb, leb, eqb, length}
use Rattle.std.specs.Bool.{beq}
use Rattle.lists.specs.Lists.{every, count, from}
use Rattle.lists.specs.Walk.{Result, done, refused, ◌>>=◌}
use Rattle.refusals.specs.declared.Refusal.{Refusal}
use Rattle.refusals.specs.declared.Refusal.TheVariants as R
use Rattle.table_rows.specs.Bytes.{Image}
use Rattle.table_rows.specs.Limits.{limits}
use Rattle.table_rows.specs.Rows.{none, mode_reactor, action_scope, is_logical}
use Rattle.tags.specs.Tags.{Tag, at, within, within_clock, to_local, image_of}
use Rattle.key_set.specs.Sets.{has, word_count}
use Rattle.store.specs.Store as S
use Rattle.store.specs.Store.{Found, store_rules}
use Rattle.table_schedule.specs.Schedule.{is_modal, is_active}
use Rattle.table.specs.Check.{is_table}
use Rattle.machine.specs.Table.{scopes, reactors, modes, reactions, actions, has_parent, set_of}
use Rattle.machine.specs.State.{Event, Scope, State, root, ordinary, root_event, scope_in, scope_at, active_at, ever_at, with_queue, with_store, accepted}
use Rattle.machine.specs.Heads as H
use Rattle.machine.specs.Heads.{Head, Ready, peek, control_only, untaken, taking, ready_of}
use Rattle.machine.specs.Transition.{Step, transition, is_tag}

-- ---- "State rules"

-- "only scopes with a parent have local events"
unfoldable pub queue_rules : Image → Event → Bool
queue_rules img e = eqb e.queue root || (ltb e.queue (scopes img) && has_parent img e.queue)

-- "all keys exist and tags are within limits"
unfoldable pub event_rules : Image → Event → Bool
event_rules img e =
    within e.tag &&
    (every (λ k. not (has e.reactions k) || ltb k (reactions img)) (from 0 (word_count * 64)) &&
    (eqb e.action none || (ltb e.action (actions img) && within e.stored)))

-- "events in active scopes map within limits"
unfoldable pub image_rules : List Scope → Event → Bool
image_rules ss e = let x = scope_in ss e.queue in eqb e.queue root || (not x.active || is_tag (image_of x.clock e.tag))

-- "a scope is active exactly if it and all ancestors that name a mode find it current; an active scope counts as active before"
unfoldable pub scope_rules : Image → List ℕ → List Scope → ℕ → Bool
scope_rules img modes ss i = let x = scope_in ss i in beq x.active (is_active img modes i) && (not x.active || x.ever)

unfoldable pub mode_rules : Image → ℕ → Bool
mode_rules img m = eqb m none || ltb m (modes img)

-- a mode for each reactor, and all scopes
unfoldable pub sized : Image → State → Bool
sized img s = eqb (length s.modes) (reactors img) && eqb (length s.scopes) (scopes img)

unfoldable pub rules : Image → State → Bool
rules img s =
    is_table img && (sized img s &&
    (every (mode_rules img) s.modes &&
    (every (λ x. within_clock x.clock) s.scopes &&
    (leb (length s.waiting) (limits img).waiting &&
    (every (scope_rules img s.modes s.scopes) (from 0 (scopes img)) &&
    (every (event_rules img) s.waiting &&
    (every (queue_rules img) s.waiting &&
    (every (image_rules s.scopes) s.waiting &&
    (eqb s.work (count ordinary s.waiting) &&
    store_rules (limits img).held (actions img) s.store)))))))))

-- ---- the calls, once the state rules hold

pub data Call : Type 0 where
  plain : Tag → Bool → List ℕ → Call
  network : Tag → List ℕ → Call
  control : Tag → Call
  action : ℕ → Tag → Bool → List ℕ → Call
  transit : ℕ → ℕ → Bool → Tag → Call
  pop : Call
  peek_tag : Call
  only_control : Call
  ordinary_work : Call
  active_now : ℕ → Call
  ever_active : ℕ → Call
  push_value : ℕ → Tag → ℕ → Call
  next_step : ℕ → ℕ → ℕ → Call
  take_value : ℕ → Tag → Call
  clear_before : ℕ → Tag → Call
  move_value : ℕ → Tag → Tag → Call
  clear_action : ℕ → Call

pub data Reply : Type 0 where
  ok : Reply
  refusal : Refusal → Reply
  nothing : Reply
  ready : Ready → Reply
  tag : Tag → Reply
  flag : Bool → Reply
  number : ℕ → Reply

pub record Outcome : Type 0 where
  pub reply : Reply
  pub state : State

abbrev pub answer : Reply → State → Outcome
answer r s = record { reply = r; state = s }

-- "A refusal returns its number and the state as given."
abbrev pub settle_with : Reply → State → Step → Outcome
settle_with r s (done t) = answer r t
settle_with r s (refused n) = answer (refusal n) s

abbrev pub settle : State → Step → Outcome
settle s r = settle_with ok s r

-- for what is answered and changes nothing
abbrev pub asked : State → Result Refusal Reply → Outcome
asked s (done r) = answer r s
asked s (refused n) = answer (refusal n) s

-- a test that must hold, or a refusal
abbrev pub need : {A : Type 0} → Bool → Refusal → Result Refusal A → Result Refusal A
need b n r = cond b r (refused n)

unfoldable pub keys_ok : Image → List ℕ → Bool
keys_ok img ks = every (λ k. ltb k (reactions img)) ks

-- ---- a push: the event that is to wait, or the refusal; then it comes last, or 8

-- "Push (plain, network, control): to the root at its tag." The table has all its keys, or not.
unfoldable pub root_made : Bool → Tag → List ℕ → Bool → Bool → Bool → Result Refusal Event
root_made known t set isTerminal isControl isNetwork = need known R.Key (need (within t) R.ArgumentTag (done (root_event t set isTerminal isControl isNetwork)))

unfoldable pub push_root : Image → State → Tag → List ℕ → Bool → Bool → Bool → Step
push_root img s t ks isTerminal isControl isNetwork = root_made (keys_ok img ks) t (set_of ks) isTerminal isControl isNetwork >>= accepted img s

-- "Push of an action: to the root if the table isn't modal, the action isn't logical, or its scope has no parent; else to its scope at the local tag."
unfoldable pub to_root : Image → ℕ → Bool
to_root img a = not (is_modal img) || (not (is_logical img a) || not (has_parent img (action_scope img a)))

-- "Refusal 7 if that tag, or in an active scope its global image, overruns."
unfoldable pub local_tag : Scope → Tag → Result Refusal Tag
local_tag x t = to_local x.clock t >>= λ u. need (not x.active || is_tag (image_of x.clock u)) R.MappedTag (done u)

-- "Stored tag: the tag given, not its image."
abbrev pub action_event : ℕ → ℕ → Tag → Tag → Bool → List ℕ → Event
action_event q a x stored terminal set =
    record { queue = q; tag = x; reactions = set; terminal = terminal; control = false; network = false; action = a; stored = stored }

-- where `x` is its scope
unfoldable pub action_placed : Image → Scope → ℕ → Tag → Bool → List ℕ → Result Refusal Event
action_placed img x a t terminal set =
    cond (to_root img a) (done (action_event root a t t terminal set))
    (local_tag x t >>= λ u. done (action_event (action_scope img a) a u t terminal set))

unfoldable pub action_made : Image → Scope → ℕ → Tag → Bool → Bool → List ℕ → Result Refusal Event
action_made img x a t terminal known set =
    need (ltb a (actions img) && known) R.Key (need (within t) R.ArgumentTag (action_placed img x a t terminal set))

unfoldable pub push_action : Image → State → ℕ → Tag → Bool → List ℕ → Step
push_action img s a t terminal ks = action_made img (scope_at s (action_scope img a)) a t terminal (keys_ok img ks) (set_of ks) >>= accepted img s

-- "A pop or peek with no head answers "nothing"."
abbrev pub pop_at : Image → State → Head → Outcome
pop_at img s H.empty = answer nothing s
pop_at img s (H.head q x t) =
    let k = taking img s.scopes t (untaken s.waiting s.work) in
    answer (ready (ready_of s.scopes t k.events)) (with_queue s k.waiting k.work)

abbrev pub peek_at : Head → Reply
peek_at H.empty = nothing
peek_at (H.head q x t) = tag t

abbrev pub found_reply : Found → Reply
found_reply S.nothing = nothing
found_reply (S.found n) = number n

-- an action and a tag for the store: 5, then 6
abbrev pub for_store : {A : Type 0} → Image → ℕ → Tag → Result Refusal A → Result Refusal A
for_store img a t r = need (ltb a (actions img)) R.Key (need (within t) R.ArgumentTag r)

-- "Order: 11, 5, 10, 6, 7, 8; for the value store 11, 5, 6, 9."
unfoldable pub perform : Image → State → Call → Outcome
perform img s (plain t terminal ks) = settle s (push_root img s t ks terminal false false)
perform img s (network t ks) = settle s (push_root img s t ks false false true)
perform img s (control t) = settle s (push_root img s t [] false true false)
perform img s (action a t terminal ks) = settle s (push_action img s a t terminal ks)
perform img s (transit r m reset c) =
    settle s
    (need (ltb r (reactors img) && ltb m (modes img)) R.Key
    (need (eqb (mode_reactor img m) r) R.TargetMode (need (within c) R.ArgumentTag (transition img r m reset c s))))
perform img s pop = pop_at img s (peek img s.scopes s.waiting)
perform img s peek_tag = answer (peek_at (peek img s.scopes s.waiting)) s
perform img s only_control = answer (flag (control_only img s.scopes s.waiting)) s
perform img s ordinary_work = answer (number s.work) s
perform img s (active_now i) = asked s (need (ltb i (scopes img)) R.Key (done (flag (active_at s i))))
perform img s (ever_active i) = asked s (need (ltb i (scopes img)) R.Key (done (flag (ever_at s i))))
perform img s (push_value a t v) = settle s (for_store img a t (S.pushed (limits img).held s.store a t v >>= λ st. done (with_store s st)))
perform img s (next_step a o m) = asked s (for_store img a (at o m) (done (found_reply (S.next_microstep s.store a o m))))
perform img s (take_value a t) =
    settle_with (found_reply (S.value_in a t s.store.values)) s (for_store img a t (done (with_store s (S.taken s.store a t))))
perform img s (clear_before a t) = settle s (for_store img a t (done (with_store s (S.cleared_before s.store a t))))
perform img s (move_value a t u) = settle s (for_store img a t (need (within u) R.ArgumentTag (S.moved (limits img).held s.store a t u >>= λ st. done (with_store s st))))
perform img s (clear_action a) = settle s (need (ltb a (actions img)) R.Key (done (with_store s (S.cleared s.store a))))

-- one call: 11 before all else
unfoldable pub step : Image → State → Call → Outcome
step img s c = cond (rules img s) (perform img s c) (answer (refusal R.StateRule) s)

-- the state after some calls, each handed the state the one before gave, and what they answered
unfoldable pub run : Image → State → List Call → State
run img s [] = s
run img s (c ∷ cs) = run img (step img s c).state cs

unfoldable pub replies : Image → State → List Call → List Reply
replies img s [] = []
replies img s (c ∷ cs) = let o = step img s c in o.reply ∷ replies img o.state cs
