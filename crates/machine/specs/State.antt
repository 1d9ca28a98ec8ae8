-- Document 01, "The plain machine": events, the state, and what changes them. Assumes nothing.
use Rattle.std.specs.Prelude.{ℕ, ◌+◌, ◌-◌, Bool, false, cond, not, ◌&&◌, ◌||◌, List, [], ◌∷◌, ◌++◌, map, leb, eqb, length, get_or, set}
use Rattle.lists.specs.Lists.{keep, lose, count, from}
use Rattle.lists.specs.Walk.{Result, done, refused}
use Rattle.refusals.specs.declared.Refusal.{Refusal}
use Rattle.refusals.specs.declared.Refusal.TheVariants as R
use Rattle.table_rows.specs.Bytes.{Image}
use Rattle.table_rows.specs.Limits.{limits}
use Rattle.table_rows.specs.Rows.{none, initial_mode}
use Rattle.tags.specs.Tags.{Tag, Clock, fresh_clock, zero_tag, same_tag}
use Rattle.store.specs.Store.{Store, empty_store}
use Rattle.table_schedule.specs.Schedule.{is_active}
use Rattle.machine.specs.Table.{scopes, reactors}

-- "Events lie in a root queue and one local queue per scope": the root's queue has the number that means "no scope",
-- and an event without an action the one that means "no action"
abbrev pub root : ℕ
root = none

-- "An event has tag, reaction set, terminal, control, network, and perhaps an action with its stored tag"
pub record Event : Type 0 where
  pub queue : ℕ
  pub tag : Tag
  pub reactions : List ℕ
  pub terminal : Bool
  pub control : Bool
  pub network : Bool
  pub action : ℕ
  pub stored : Tag

-- "Ordinary means neither terminal nor control"
unfoldable pub ordinary : Event → Bool
ordinary e = not e.terminal && not e.control

-- an event of the root with no action: its tag and set, terminal, control, network
abbrev pub root_event : Tag → List ℕ → Bool → Bool → Bool → Event
root_event t set terminal control network =
    record {
      queue = root;
      tag = t;
      reactions = set;
      terminal = terminal;
      control = control;
      network = network;
      action = none;
      stored = zero_tag;
    }

abbrev pub stamped : Event → Tag → Event
stamped e t =
    record {
      queue = e.queue;
      tag = e.tag;
      reactions = e.reactions;
      terminal = e.terminal;
      control = e.control;
      network = e.network;
      action = e.action;
      stored = t;
    }

unfoldable pub in_queue : ℕ → Event → Bool
in_queue q e = eqb e.queue q

-- the events of a queue at a tag of that queue
unfoldable pub at_head : ℕ → Tag → Event → Bool
at_head q t e = in_queue q e && same_tag e.tag t

-- each scope has a clock, is active now or not, and was active before or not
pub record Scope : Type 0 where
  pub clock : Clock
  pub active : Bool
  pub ever : Bool

-- what a scope has when fresh, active or not; also what stands where there is no scope
abbrev pub fresh_scope : Bool → Scope
fresh_scope b = record { clock = fresh_clock b; active = b; ever = b }

-- modes by reactor, and the scopes; the waiting events of all queues "in order of acceptance, one slot each"
pub record State : Type 0 where
  pub modes : List ℕ
  pub scopes : List Scope
  pub waiting : List Event
  pub work : ℕ
  pub store : Store

-- no reactor, no scope, and nothing waits or is held
abbrev pub no_state : State
no_state = record { modes = []; scopes = []; waiting = []; work = 0; store = empty_store }

abbrev pub scope_in : List Scope → ℕ → Scope
scope_in ss i = get_or ss i (fresh_scope false)

abbrev pub scope_at : State → ℕ → Scope
scope_at s i = scope_in s.scopes i

abbrev pub clock_at : State → ℕ → Clock
clock_at s i = (scope_at s i).clock

abbrev pub active_at : State → ℕ → Bool
active_at s i = (scope_at s i).active

abbrev pub ever_at : State → ℕ → Bool
ever_at s i = (scope_at s i).ever

-- ---- a scope or a state with one part changed

abbrev pub clocked : Clock → Scope → Scope
clocked k x = record { clock = k; active = x.active; ever = x.ever }

-- active or not from now on; it counts as ever active once it was
abbrev pub marked : Bool → Scope → Scope
marked b x = record { clock = x.clock; active = b; ever = x.ever || b }

abbrev pub with_queue : State → List Event → ℕ → State
with_queue s w n = record { modes = s.modes; scopes = s.scopes; waiting = w; work = n; store = s.store }

abbrev pub with_store : State → Store → State
with_store s st = record { modes = s.modes; scopes = s.scopes; waiting = s.waiting; work = s.work; store = st }

abbrev pub with_modes : State → List ℕ → State
with_modes s m = record { modes = m; scopes = s.scopes; waiting = s.waiting; work = s.work; store = s.store }

abbrev pub with_scopes : State → List Scope → State
with_scopes s l = record { modes = s.modes; scopes = l; waiting = s.waiting; work = s.work; store = s.store }

-- ---- the waiting events

abbrev pub tally : Event → ℕ → ℕ
tally e n = cond (ordinary e) (n + 1) n

-- one more event comes last, or 8
unfoldable pub accepted : Image → State → Event → Result Refusal State
accepted img s e =
    cond (leb (limits img).waiting (length s.waiting)) (refused R.Waiting) (done (with_queue s (s.waiting ++ (e ∷ [])) (tally e s.work)))

-- the ordinary work once the events that pass are gone
abbrev pub work_less : (Event → Bool) → List Event → ℕ → ℕ
work_less p es work = work - count ordinary (keep p es)

-- without the events that pass
unfoldable pub without : (Event → Bool) → State → State
without p s = with_queue s (lose p s.waiting) (work_less p s.waiting s.work)

-- ---- "A fresh manager has the initial modes, and nothing waits or is held."

unfoldable pub fresh : Image → State
fresh s =
    let modes = map (initial_mode s) (from 0 (reactors s)) in
    let active = map (is_active s modes) (from 0 (scopes s)) in
    with_scopes (with_modes no_state modes) (map fresh_scope active)
