-- "11: the state handed in breaks a state rule": states that break one rule each are refused and come back as given; odd states
-- that break none are not. No day hands in a state. Assumes nothing.
use Rattle.std.specs.Prelude.{ℕ, ◌≡◌, refl, Bool, true, false, List, [], ◌∷◌, ◌++◌, map, replicate}
use Rattle.lists.specs.Lists.{from}
use Rattle.refusals.specs.declared.Refusal.TheVariants as R
use Rattle.table_rows.specs.Bytes.{Image}
use Rattle.table_rows.specs.Rows.{none}
use Rattle.tags.specs.Tags.{Tag, at, Clock, fresh_clock}
use Rattle.store_words.specs.Entries.{Value, Bucket}
use Rattle.machine.specs.State.{Event, Scope, State, fresh_scope, root, root_event, with_queue, with_store, with_modes, with_scopes}
use Rattle.machine.specs.Machine.{pop, refusal, answer, rules, step}
use Rattle.machine_days.specs.Computed.{day_of, scope, clock, value, bucket}

-- two modes of reactor 0, a third of reactor 1; one reaction; a logical action in the scope of mode 0
abbrev pub image : Image
image =
    0 ∷ 0 ∷ 0 ∷ 67 ∷ 1 ∷ 0 ∷ 4 ∷ 0 ∷ 2 ∷ 0 ∷ 3 ∷ 0 ∷ 1 ∷ 0 ∷ 1 ∷ 0 ∷ 0 ∷ 0 ∷ 0 ∷ 0 ∷ 0 ∷ 0 ∷ 0 ∷
    255 ∷ 255 ∷ 0 ∷ 0 ∷ 255 ∷ 255 ∷ 0 ∷ 0 ∷ 0 ∷ 0 ∷ 0 ∷ 0 ∷ 0 ∷ 0 ∷ 0 ∷ 0 ∷ 0 ∷ 1 ∷ 0 ∷ 0 ∷ 0 ∷ 1 ∷ 0 ∷ 2 ∷
    0 ∷ 0 ∷ 0 ∷ 0 ∷ 0 ∷ 0 ∷ 255 ∷ 255 ∷ 0 ∷ 1 ∷ 0 ∷ 0 ∷ 0 ∷ 2 ∷ 0 ∷ 0 ∷ 0 ∷ 3 ∷ 0 ∷ 1 ∷ 0 ∷ 0 ∷ 1 ∷ 1 ∷ []

-- ---- a state that breaks no rule

-- an event of a queue, with an action and its stored tag
abbrev pub waits : ℕ → Tag → List ℕ → ℕ → Tag → Event
waits q t set a u = record { queue = q; tag = t; reactions = set; terminal = false; control = false; network = false; action = a; stored = u }

-- the clock of mode 0's scope, which was entered at (100,0)
abbrev pub entered : Clock
entered = clock (at 100 0) (at 0 0) false (at 0 0)

-- the scopes, where mode 0's has this clock and these marks
abbrev pub first : Clock → Bool → Bool → List Scope
first k active ever = fresh_scope true ∷ scope k active ever ∷ fresh_scope false ∷ fresh_scope false ∷ []

abbrev pub sound : State
sound =
    record {
      modes = 0 ∷ none ∷ [];
      scopes = first entered true true;
      waiting = waits 1 (at 5 0) (1 ∷ 0 ∷ []) 0 (at 105 0) ∷ [];
      work = 1;
      store = record { values = value 0 (at 105 0) 7 ∷ []; buckets = bucket 0 105 1 ∷ [] };
    }

-- ---- the same with one part changed

-- one event waits, and is the work
abbrev pub one : Event → State
one e = with_queue sound (e ∷ []) 1

abbrev pub holding : List Value → List Bucket → State
holding vs bs = with_store sound (record { values = vs; buckets = bs })

abbrev pub broken : List State
broken =
    -- a mode for each reactor, and all scopes
    with_modes sound (0 ∷ []) ∷
    with_scopes sound (fresh_scope true ∷ []) ∷
    -- "all keys exist and tags are within limits"
    with_modes sound (0 ∷ 3 ∷ []) ∷
    with_scopes sound (first (clock (at 100 0) (at 0 0) false (at 0 4294967296)) true true) ∷
    one (waits 1 (at 4611686018427387904 0) (1 ∷ 0 ∷ []) 0 (at 105 0)) ∷
    one (waits 1 (at 5 0) (2 ∷ 0 ∷ []) 0 (at 105 0)) ∷
    one (waits 1 (at 5 0) (1 ∷ 1 ∷ []) 0 (at 105 0)) ∷
    one (waits 1 (at 5 0) (1 ∷ 0 ∷ []) 1 (at 105 0)) ∷
    one (waits 1 (at 5 0) (1 ∷ 0 ∷ []) 0 (at 4611686018427387904 0)) ∷
    one (waits 4 (at 5 0) (1 ∷ 0 ∷ []) 0 (at 105 0)) ∷
    -- "at most 256 events wait"
    with_queue sound (replicate 257 (root_event (at 5 0) (0 ∷ 0 ∷ []) false false false)) 257 ∷
    -- "only scopes with a parent have local events"
    one (waits 0 (at 5 0) (1 ∷ 0 ∷ []) 0 (at 5 0)) ∷
    -- "events in active scopes map within limits"
    one (waits 1 (at 4611686018427387903 0) (1 ∷ 0 ∷ []) 0 (at 105 0)) ∷
    -- "a scope is active exactly if it and all ancestors that name a mode find it current; an active scope counts as active before"
    with_scopes sound (fresh_scope true ∷ scope entered true true ∷ scope (fresh_clock false) true true ∷ fresh_scope false ∷ []) ∷
    with_scopes sound (first entered false true) ∷
    with_scopes sound (first entered true false) ∷
    -- "ordinary work equals the number of ordinary events waiting"
    with_queue sound sound.waiting 0 ∷
    with_queue sound (root_event (at 5 0) (0 ∷ 0 ∷ []) true false false ∷ []) 1 ∷
    -- "values are unique by action and tag; buckets by action and offset"
    holding (value 0 (at 105 0) 7 ∷ value 0 (at 105 0) 8 ∷ []) (bucket 0 105 1 ∷ []) ∷
    holding [] (bucket 0 105 1 ∷ bucket 0 105 2 ∷ []) ∷
    -- "each value has its bucket, whose next microstep is at least the value's plus one (held at the limit)"
    holding (value 0 (at 105 0) 7 ∷ []) (bucket 0 104 1 ∷ []) ∷
    holding (value 0 (at 105 3) 7 ∷ []) (bucket 0 105 3 ∷ []) ∷
    holding (value 0 (at 105 4294967295) 7 ∷ []) (bucket 0 105 4294967294 ∷ []) ∷
    -- keys and tags of the store
    holding (value 1 (at 105 0) 7 ∷ []) (bucket 1 105 1 ∷ []) ∷
    holding [] (bucket 1 105 1 ∷ []) ∷
    holding [] (bucket 0 4611686018427387904 1 ∷ []) ∷
    holding [] (bucket 0 105 4294967296 ∷ []) ∷
    -- more than 256 values or buckets
    holding (map (λ i. value 0 (at 5 i) 0) (from 0 257)) (bucket 0 5 257 ∷ []) ∷
    holding [] (map (λ i. bucket 0 i 1) (from 0 257)) ∷
    []

-- "A refusal returns its number and the state as given."
pub broken_refused : map (λ s. step image s pop) broken ≡ map (λ s. answer (refusal R.StateRule) s) broken
unfolding day_of
broken_refused = refl

-- "the table passes the rules above": with a byte more at its end the length is wrong
pub table_refused_lem : step (image ++ (0 ∷ [])) sound pop ≡ answer (refusal R.StateRule) sound
unfolding day_of
table_refused_lem = refl

-- ---- odd, and no rule broken

abbrev pub odd : List State
odd =
    sound ∷
    -- "The current mode of a reactor need only exist": reactor 1 stands in a mode of reactor 0
    with_modes sound (0 ∷ 1 ∷ []) ∷
    -- "Nothing ties an event's flags to each other. A stored tag without an action isn't looked at."
    with_queue sound
    (record {
      queue = root;
      tag = at 5 0;
      reactions = 0 ∷ 0 ∷ [];
      terminal = true;
      control = true;
      network = true;
      action = none;
      stored = at 4611686018427387904 0;
    } ∷ [])
    0 ∷
    -- an event of an inactive scope need not map
    one (waits 2 (at 4611686018427387903 0) (1 ∷ 0 ∷ []) 0 (at 105 0)) ∷
    -- a bucket without a value, and one at the limit
    holding (value 0 (at 105 4294967295) 7 ∷ []) (bucket 0 105 4294967295 ∷ bucket 0 5 1 ∷ []) ∷
    []

pub odd_accepted : map (rules image) odd ≡ replicate 5 true
unfolding day_of
odd_accepted = refl
