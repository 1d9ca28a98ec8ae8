-- The parts of the plain machine's state in lent arrays of words: when an array holds a part, and blanks behind it. Assumes nothing.
use Rattle.std.specs.Prelude.{◌≡◌, refl, List, [], ◌∷◌, ◌++◌, ℕ, ◌+◌, ◌*◌, ◌≤◌, ◌<◌, length, take, get_or, set}
use Rattle.std.proofs.Common.{◌∙◌, sym, le_trans, length-take}
use Rattle.std.proofs.Math.Nat.{min-eq_left}
use Rattle.lists.specs.Held as H
use Rattle.lists.specs.Lists.{count}
use Rattle.lists.specs.Lay.{lay}
use Rattle.store_words.specs.Entries.{room_for_entries, blank_value, blank_bucket}
use Rattle.store_words.specs.Words.{value_words, bucket_words, HeldValues, HeldBuckets}
use Rattle.store.specs.Store.{Store}
use Rattle.store_calls.specs.declared.Counts as store
use Rattle.store_calls.specs.Lent.{store_of, Lent, Laid}
use Rattle.machine.specs.State.{Event, State, ordinary, scope_at}
use Rattle.state_events.specs.Slots as slot
use Rattle.state_events.specs.Slots.{events_of, room_for_events, slot_words}
use Rattle.state_queues.specs.Queue as queue
use Rattle.state_queues.specs.Queue.{heads_of}
use Rattle.state_scopes.specs.Scopes as scope
use Rattle.state_scopes.specs.Scopes.{Scope, most_scopes, scope_words, scopes_of}
use Rattle.state_room.specs.Padded.{padded, padded_take, padded_get, padded_set, padded_more, padded_lay}
use Rattle.state_room.specs.declared.Counts.{Counts}
use Rattle.state_room.specs.declared.Ledger.{Ledger}

-- how many reactors there may be: as many as a table's count allows
abbrev pub most_reactors : ℕ
most_reactors = 16

-- the words of all rows
abbrev pub spare_room : ℕ
spare_room = most_scopes * scope_words + (room_for_events * slot_words + (room_for_entries * value_words + room_for_entries * bucket_words))

-- ---- the waiting events

-- those that wait in the rows: what the contracts of the calls call them; only loops over rows speak of the first so many
abbrev pub waiting_in : List ℕ → Counts → List Event
waiting_in ws c = take c.waiting (events_of ws)

-- every queue's least tag, of these events
abbrev pub Headed : List ℕ → List ℕ → Counts → Type 0
Headed hs ws c = queue.Held hs (heads_of (waiting_in ws c))

-- these events wait, so many of them ordinary
pub record Queued (es : List Event) (n : ℕ) (ws : List ℕ) (c : Counts) : Type 0 where
  pub held : slot.Held ws (padded slot.blank room_for_events es)
  pub waiting : c.waiting ≡ length es
  pub work : c.work ≡ n

-- what a working function asks of the rows and counts that it is lent: blanks behind the events that wait, and the work counted
pub record Waits (ws : List ℕ) (c : Counts) : Type 0 where
  pub held : slot.Held ws (padded slot.blank room_for_events (waiting_in ws c))
  pub few : c.waiting ≤ room_for_events
  pub counted : c.work ≡ count ordinary (waiting_in ws c)

module _ (es : List Event) (work : ℕ) (ws : List ℕ) (c : Counts) where
  pub queued_is : Queued es work ws c → length es ≤ room_for_events → waiting_in ws c ≡ es
  queued_is q h = rw (q.waiting, q.held.things) (padded_take slot.blank room_for_events es h)

  pub queued_waits : Queued es work ws c → length es ≤ room_for_events → work ≡ count ordinary es → Waits ws c
  queued_waits q h k =
      let e = queued_is q h in
      record { held = rw e q.held; few = rw q.waiting h; counted = rw e (q.work ∙ k) }

  -- a new list laid over it
  pub queued_laid : (new : List Event) (out : List ℕ) → Queued es work ws c → length es ≤ room_for_events →
      slot.Held out (lay slot.blank (events_of ws) new c.waiting) → slot.Held out (padded slot.blank room_for_events new)
  queued_laid new out q h o =
      record { whole = o.whole; things = o.things ∙ (rw (q.waiting, q.held.things) (padded_lay slot.blank room_for_events es new h)) }

  -- one event more
  pub queued_more : (e : Event) (out : List ℕ) → Queued es work ws c →
      slot.Held out (set (events_of ws) c.waiting e) → slot.Held out (padded slot.blank room_for_events (es ++ (e ∷ [])))
  queued_more e out q o =
      record { whole = o.whole; things = o.things ∙ (rw (q.waiting, q.held.things) (padded_more slot.blank room_for_events es e)) }

pub waits_queued : (ws : List ℕ) (c : Counts) → Waits ws c → Queued (waiting_in ws c) c.work ws c
waits_queued ws c w =
    let n : length (events_of ws) ≡ room_for_events = H.things_length slot.decode slot.encode slot.slot_words room_for_events slot.encode_long ws in
    let few = w.few in
    record { held = w.held; waiting = sym (length-take c.waiting (events_of ws) ∙ rw n (min-eq_left few)); work = refl }

-- ---- values and buckets

pub record Stored (st : Store) (vs bs : List ℕ) (c : store.Counts) : Type 0 where
  pub values : HeldValues vs (padded blank_value room_for_entries st.values)
  pub buckets : HeldBuckets bs (padded blank_bucket room_for_entries st.buckets)
  pub some_values : c.values ≡ length st.values
  pub some_buckets : c.buckets ≡ length st.buckets

-- no more values, and no more buckets, than the limit, for which the arrays have room
pub record Fits (limit : ℕ) (st : Store) : Type 0 where
  pub values : length st.values ≤ limit
  pub buckets : length st.buckets ≤ limit
  pub room : limit ≤ room_for_entries

module _ {limit : ℕ} (st : Store) (vs bs : List ℕ) (c : store.Counts) (s : Stored st vs bs c) (f : Fits limit st) where
  pub stored_lent : Lent limit vs bs c
  stored_lent =
      record {
        values = s.values.whole;
        buckets = s.buckets.whole;
        few_values = rw s.some_values f.values;
        few_buckets = rw s.some_buckets f.buckets;
        room = f.room;
      }

  values_fit : length st.values ≤ room_for_entries
  values_fit = le_trans f.values f.room

  buckets_fit : length st.buckets ≤ room_for_entries
  buckets_fit = le_trans f.buckets f.room

  pub stored_is : store_of vs bs c ≡ st
  stored_is =
      rw (
        s.some_values,
        s.some_buckets,
        s.values.things,
        s.buckets.things,
        padded_take blank_value room_for_entries st.values values_fit,
        padded_take blank_bucket room_for_entries st.buckets buckets_fit,
      )

  -- a new store laid over it
  pub stored_laid : (t : Store) (vs-end bs-end : List ℕ) (m : store.Counts) → Laid vs bs c t vs-end bs-end m → Stored t vs-end bs-end m
  stored_laid t vs-end bs-end m l =
      record {
        values = record { whole = l.values.whole; things = l.values.things ∙ rw (s.some_values, s.values.things) (padded_lay blank_value room_for_entries st.values t.values values_fit) };
        buckets =
            record { whole = l.buckets.whole; things = l.buckets.things ∙ rw (s.some_buckets, s.buckets.things) (padded_lay blank_bucket room_for_entries st.buckets t.buckets buckets_fit) };
        some_values = l.some_values;
        some_buckets = l.some_buckets;
      }

-- ---- scopes

-- the array shows a state's scopes
abbrev pub Shows : State → List ℕ → Type 0
Shows s ws = (i : ℕ) → get_or (scopes_of ws) i scope.blank ≡ scope_at s i

-- the array holds these scopes and blanks behind them
abbrev pub Scoped : List Scope → List ℕ → Type 0
Scoped ss ws = scope.Held ws (padded scope.blank most_scopes ss)

module _ (ss : List Scope) (ws : List ℕ) (s : Scoped ss ws) where
  pub scoped_get : (i : ℕ) → length ss ≤ most_scopes → get_or (scopes_of ws) i scope.blank ≡ get_or ss i scope.blank
  scoped_get i h = rw s.things (padded_get scope.blank most_scopes ss i h)

  pub scoped_take : (n : ℕ) → length ss ≤ most_scopes → length ss ≡ n → take n (scopes_of ws) ≡ ss
  scoped_take n h e = rw (s.things, ← e) (padded_take scope.blank most_scopes ss h)

  pub scoped_put : (i : ℕ) (x : Scope) (out : List ℕ) → i < length ss → scope.Held out (set (scopes_of ws) i x) → Scoped (set ss i x) out
  scoped_put i x out h o = record { whole = o.whole; things = o.things ∙ rw s.things (padded_set scope.blank most_scopes ss i x h) }

-- these modes, and nothing waits or is held
abbrev pub bare_ledger : List ℕ → Ledger
bare_ledger modes = record { modes = modes; counts = record { waiting = 0; work = 0 }; held = record { values = 0; buckets = 0 } }
