-- The manager as arrays, the plain machine's state in them, and one call on what is handed in. Assumes nothing.
use Rattle.std.specs.Prelude.{ℕ, Bool, true, false, cond, ◌||◌, List, [], ◌∷◌, length, take}
use Rattle.refusals.specs.declared.Refusal.TheVariants as R
use Rattle.table_rows.specs.Bytes.{Image}
use Rattle.table.specs.Check.{is_table}
use Rattle.tags.specs.Tags.{Tag, zero_tag}
use Rattle.key_set.specs.Sets.{no_keys, word_count}
use Rattle.store_words.specs.Entries.{room_for_entries, blank_value, blank_bucket}
use Rattle.store.specs.Store.{Store}
use Rattle.value_store.specs.Calls as store
use Rattle.value_store.specs.Calls.{held_in}
use Rattle.machine.specs.Table.{scopes, reactors}
use Rattle.machine.specs.State.{Event, Scope, State, fresh, no_state}
use Rattle.state_events.specs.Slots.{room_for_events}
use Rattle.machine.specs.Heads.{Ready}
use Rattle.machine.specs.Machine as M
use Rattle.machine.specs.Machine.{Call, Reply, Outcome, refusal, perform}
use Rattle.state_events.specs.Slots as slot
use Rattle.state_scopes.specs.Scopes as scope
use Rattle.state_scopes.specs.Scopes.{most_scopes}
use Rattle.state_room.specs.Padded.{padded}
use Rattle.state_rules.specs.Sound.{sound}
use Rattle.state_room.specs.PartRows.{most_reactors}

-- "Arrays by value of scope clocks, active flags and event slots inside the manager"
pub record Arrays : Type 0 where
  pub scopes : List Scope
  pub modes : List ℕ
  pub slots : List Event
  pub waiting : ℕ
  pub work : ℕ
  pub store : store.Arrays

-- the state in them: of scopes and modes as many as the table has, of events, values and buckets those that are counted
abbrev pub view_of : Image → Arrays → State
view_of img a =
    record {
      modes = take (reactors img) a.modes;
      scopes = take (scopes img) a.scopes;
      waiting = take a.waiting a.slots;
      work = a.work;
      store = held_in a.store;
    }

-- a state in arrays whose other places are blank
abbrev pub packed_store : Store → store.Arrays
packed_store st =
    record {
      values = padded blank_value room_for_entries st.values;
      held = length st.values;
      buckets = padded blank_bucket room_for_entries st.buckets;
      «open» = length st.buckets;
    }

abbrev pub packed : State → Arrays
packed s =
    record {
      scopes = padded scope.blank most_scopes s.scopes;
      modes = padded 0 most_reactors s.modes;
      slots = padded slot.blank room_for_events s.waiting;
      waiting = length s.waiting;
      work = s.work;
      store = packed_store s.store;
    }

-- a fresh manager over an accepted table
unfoldable pub fresh_over : Image → Arrays
fresh_over img = cond (is_table img) (packed (fresh img)) (packed no_state)

-- ---- one call

-- the state handed in keeps the state rules
unfoldable pub is_sound : Image → Arrays → Bool
is_sound img a = sound img a.waiting a.store.held a.store.«open» (view_of img a)

pub record Answered : Type 0 where
  pub reply : Reply
  pub manager : Arrays

abbrev pub answered : Reply → Arrays → Answered
answered r a = record { reply = r; manager = a }

-- calls that only ask
abbrev pub asks : Call → Bool
asks (M.plain t b ks) = false
asks (M.network t ks) = false
asks (M.control t) = false
asks (M.action a t b ks) = false
asks (M.transit r m k t) = false
asks M.pop = false
asks M.peek_tag = true
asks M.only_control = true
asks M.ordinary_work = true
asks (M.active_now i) = true
asks (M.ever_active i) = true
asks (M.push_value a t v) = false
asks (M.next_step a o m) = true
asks (M.take_value a t) = false
asks (M.clear_before a t) = false
asks (M.move_value a t u) = false
asks (M.clear_action a) = false

abbrev pub is_refusal : Reply → Bool
is_refusal (M.refusal n) = true
is_refusal M.ok = false
is_refusal M.nothing = false
is_refusal (M.ready r) = false
is_refusal (M.tag t) = false
is_refusal (M.flag b) = false
is_refusal (M.number n) = false

-- "A refusal returns its number and the state as given": the manager as it was handed in where a call only asks or is refused, else the one after it
abbrev pub ended_by : Arrays → Bool → Arrays → Reply → Answered
ended_by a asking b r = answered r (cond (asking || is_refusal r) a b)

-- the one after it has the machine's new state
abbrev pub ended : Arrays → Bool → Outcome → Answered
ended a asking o = ended_by a asking (packed o.state) o.reply

-- 11 before all else, then the plain machine's answer
unfoldable pub step_on : Image → Arrays → Call → Answered
step_on img a c = cond (is_sound img a) (ended a (asks c) (perform img (view_of img a) c)) (answered (M.refusal R.StateRule) a)

-- the manager after some calls, each handed the one that the call before gave
unfoldable pub run_on : Image → Arrays → List Call → Arrays
run_on img a [] = a
run_on img a (c ∷ cs) = run_on img (step_on img a c).manager cs

-- ---- what a pop shows besides: a ready event in places of a fixed number, zeros behind its action keys; blank where there is none

pub record Shown : Type 0 where
  pub tag : Tag
  pub terminal : Bool
  pub work : Bool
  pub network : Bool
  pub held : Bool
  pub reactions : List ℕ
  pub actions : List ℕ
  pub count : ℕ

abbrev pub shown_ready : Ready → Shown
shown_ready r =
    record {
      tag = r.tag;
      terminal = r.terminal;
      work = r.work;
      network = r.network;
      held = r.held;
      reactions = r.reactions;
      actions = padded 0 room_for_events r.actions;
      count = length r.actions;
    }

abbrev pub no_ready : Ready
no_ready = record { tag = zero_tag; terminal = false; work = false; network = false; held = false; reactions = no_keys word_count; actions = [] }

abbrev pub shown : Reply → Shown
shown (M.ready r) = shown_ready r
shown (M.refusal n) = shown_ready no_ready
shown M.ok = shown_ready no_ready
shown M.nothing = shown_ready no_ready
shown (M.tag t) = shown_ready no_ready
shown (M.flag b) = shown_ready no_ready
shown (M.number n) = shown_ready no_ready

pub record Popped : Type 0 where
  pub answered : Answered
  pub ready : Shown

abbrev pub popped : Answered → Popped
popped x = record { answered = x; ready = shown x.reply }
