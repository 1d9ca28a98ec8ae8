-- The code's manager and answers as the definitions', and the manager as rows of words. Assumes nothing.
use Rattle.std.specs.Prelude.{ℕ, Bool, ◌≡◌, ◌⊎◌, List, [], ◌∷◌, map, ltb, length, take, replicate, Result, Option, Ok, Err, Some, None}
use Rattle.table_rows.specs.Bytes.{Image}
use Rattle.tags.specs.Views.{of_global, of_clock}
use Rattle.tags.specs.Tags.{Clock}
use Rattle.store_words.specs.Entries.{room_for_entries, blank_value, blank_bucket}
use Rattle.store_words.specs.Words.{HeldValues, HeldBuckets}
use Rattle.value_store.specs.Views as stores
use Rattle.machine.specs.State.{Scope}
use Rattle.state_events.specs.Slots as slot
use Rattle.state_events.specs.Slots.{event_of, events_of, room_for_events}
use Rattle.state_scopes.specs.Scopes.{most_scopes, scopes_of}
use Rattle.state_scopes.specs.Scopes as scope
use Rattle.state_room.specs.Padded.{padded}
use Rattle.state_room.specs.PartRows.{most_reactors, Scoped}
use Rattle.machine.specs.Machine as M
use Rattle.machine.specs.Machine.{Reply}
use Rattle.state_room.specs.Holds.{Rows}
use Rattle.manager.specs.Arrays.{Arrays, Answered, answered, Shown, shown_ready, no_ready, Popped, view_of}
use Rattle.machine.specs.Heads.{Ready}
use Rattle.refusals.specs.declared.Refusal.{Refusal}
use Rattle.refusals.specs.declared.Refusal.TheVariants.{StateRule}
use Rattle.call_pop_ready.specs.Gathering.{ready_at, gathering_of}
use Rattle.call_perform.specs.Calls.{answer_reply, reply_of, Tells}
use Rattle.call_pop_ready.specs.declared.Gathered.{Gathered}
use Rattle.tags.specs.declared.GlobalTag.{GlobalTag}
use Rattle.call_perform.specs.declared.Call.{Call}
use Rattle.call_perform.specs.declared.Performed.{Performed}
use Rattle.manager.specs.declared.Answered as code
use Rattle.manager.specs.declared.Called.{Called}
use Rattle.manager.specs.declared.Popped as code-popped
use Rattle.manager.specs.declared.Ready as R
use Rattle.manager.specs.declared.Manager.{Manager}

-- three arrays read as one list of scopes; they are equally long by their types, so that the list tells all three
unfoldable pub joined : List Clock → List Bool → List Bool → List Scope
joined (k ∷ ks) (a ∷ now) (e ∷ before) = record { clock = k; active = a; ever = e } ∷ joined ks now before
joined [] now before = []
joined (k ∷ ks) [] before = []
joined (k ∷ ks) (a ∷ now) [] = []

abbrev pub arrays_of : Manager → Arrays
arrays_of m =
    record {
      scopes = joined (map of_clock m.clocks) m.active m.ever;
      modes = m.modes;
      slots = map event_of m.slots;
      waiting = m.waiting;
      work = m.work;
      store = stores.arrays_of m.store;
    }

-- ---- rows of words

-- the arrays that rows hold
abbrev pub arrays_in : Rows → Arrays
arrays_in u =
    record {
      scopes = scopes_of u.scopes;
      modes = u.ledger.modes;
      slots = events_of u.events;
      waiting = u.ledger.counts.waiting;
      work = u.ledger.counts.work;
      store = stores.arrays_in u.values u.buckets u.ledger.held;
    }

-- rows that hold nothing
pub record Blank (scopes events values buckets : List ℕ) : Type 0 where
  pub no_scope : scope.Held scopes (replicate most_scopes scope.blank)
  pub no_event_lem : slot.Held events (replicate room_for_events slot.blank)
  pub no_value : HeldValues values (replicate room_for_entries blank_value)
  pub no_bucket : HeldBuckets buckets (replicate room_for_entries blank_bucket)

-- how long the arrays are
pub record Full (a : Arrays) : Type 0 where
  pub scopes : length a.scopes ≡ most_scopes
  pub modes : length a.modes ≡ most_reactors
  pub slots : length a.slots ≡ room_for_events
  pub values : length a.store.values ≡ room_for_entries
  pub buckets : length a.store.buckets ≡ room_for_entries

-- the rows hold the manager's state and blanks behind it; their counts are those that are handed in, the state's own unless more is counted than an array has
pub record Unpacks (img : Image) (a : Arrays) (u : Rows) : Type 0 where
  pub full : Full a
  pub moded : u.ledger.modes ≡ padded 0 most_reactors (view_of img a).modes
  pub scoped : Scoped (view_of img a).scopes u.scopes
  pub events : slot.Held u.events (padded slot.blank room_for_events (view_of img a).waiting)
  pub values : HeldValues u.values (padded blank_value room_for_entries (view_of img a).store.values)
  pub buckets : HeldBuckets u.buckets (padded blank_bucket room_for_entries (view_of img a).store.buckets)
  pub counted : u.ledger.counts ≡ record { waiting = a.waiting; work = a.work }
  pub held : u.ledger.held ≡ record { values = a.store.held; buckets = a.store.«open» }

-- ---- answers

abbrev pub answered_of : code.Answered → Answered
answered_of r = answered (answer_reply r.answer) (arrays_of r.manager)

abbrev pub called_of : Called → Answered
called_of r = answered (reply_of r.performed r.actions) (arrays_of r.manager)

-- what is known of an answer by its call, unless it is 11
abbrev pub TellsOrEleven : Call → Performed → Type 0
TellsOrEleven c r = Tells c r ⊎ ((r.tag ≡ None) × (r.answer ≡ Err StateRule))

-- the count as a yes or no
abbrev pub work_reply : Reply → Reply
work_reply (M.number n) = M.flag (ltb 0 n)
work_reply (M.refusal n) = M.refusal n
work_reply M.ok = M.ok
work_reply M.nothing = M.nothing
work_reply (M.ready r) = M.ready r
work_reply (M.tag t) = M.tag t
work_reply (M.flag b) = M.flag b

abbrev pub some_work : Answered → Answered
some_work x = answered (work_reply x.reply) x.manager

-- ---- a pop's

abbrev pub shown_of : R.Ready → Shown
shown_of r =
    record {
      tag = of_global r.tag;
      terminal = r.terminal;
      work = r.work;
      network = r.network;
      held = r.held;
      reactions = r.reactions.words;
      actions = r.actions;
      count = r.count;
    }

-- the ready event that a pop found
abbrev pub ready_from : GlobalTag → Gathered → List ℕ → Ready
ready_from t g keys = ready_at (of_global t) (gathering_of g keys)

abbrev pub ready_in : Shown → Ready
ready_in r = record { tag = r.tag; terminal = r.terminal; work = r.work; network = r.network; held = r.held; reactions = r.reactions; actions = take r.count r.actions }

abbrev pub pop_reply_of : Result (Option R.Ready) Refusal → Reply
pop_reply_of (Ok (Some r)) = M.ready (ready_in (shown_of r))
pop_reply_of (Ok None) = M.nothing
pop_reply_of (Err n) = M.refusal n

-- blank where there is none
abbrev pub pop_shown_of : Result (Option R.Ready) Refusal → Shown
pop_shown_of (Ok (Some r)) = shown_of r
pop_shown_of (Ok None) = shown_ready no_ready
pop_shown_of (Err n) = shown_ready no_ready

abbrev pub popped_of : code-popped.Popped → Popped
popped_of r = record { answered = answered (pop_reply_of r.ready) (arrays_of r.manager); ready = pop_shown_of r.ready }
