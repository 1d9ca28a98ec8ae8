-- Three runs and their histories, computed; and histories that are not theirs. Assumes nothing.
use Rattle.std.specs.Prelude.{ℕ, true, false, ◌≡◌, refl, List, [], ◌∷◌}
use Rattle.std.proofs.Common.{sym, arith}
use Rattle.lists.specs.Lists.{keep}
use Rattle.lists.specs.Every.{no_way}
use Rattle.table_rows.specs.Bytes.{Image}
use Rattle.tags.specs.Tags.{at}
use Rattle.key_set.specs.Sets.{no_keys, word_count}
use Rattle.table.specs.Check.{is_table}
use Rattle.machine.specs.State.{Event, root_event}
use Rattle.machine.specs.Machine.{Call, plain, control, transit, pop}
use Rattle.machine_days.specs.Computed.{day_of}
use Rattle.machine_history.specs.Deeds.{startup_events, timer_events, reset_events, transition_events, scope_turns, turns_of}
use Rattle.machine_history.specs.History.{Fate, waits, popped, dropped, Entry, History, turn_from, fate_at}
use Rattle.machine_history.specs.History.{fate_from, entries_from, history_of, new_by, pop_takes, reset_drops, waits_in, waits_at, Told}

-- two scopes, the second of the one mode; a timer there
abbrev pub img : Image
img =
    0 ∷ 0 ∷ 0 ∷ 56 ∷ 1 ∷ 0 ∷ 2 ∷ 0 ∷ 1 ∷ 0 ∷ 1 ∷ 0 ∷ 0 ∷ 0 ∷ 1 ∷ 0 ∷ 0 ∷ 0 ∷ 0 ∷ 0 ∷ 0 ∷ 0 ∷ 1 ∷
    255 ∷ 255 ∷ 0 ∷ 0 ∷ 255 ∷ 255 ∷ 0 ∷ 0 ∷ 0 ∷ 0 ∷ 0 ∷ 0 ∷
    0 ∷ 0 ∷ 0 ∷ 0 ∷
    0 ∷ 1 ∷ 0 ∷ 0 ∷
    0 ∷ 1 ∷ 1 ∷
    0 ∷ 0 ∷ 0 ∷ 0 ∷ 0 ∷ 0 ∷ 0 ∷ 0 ∷ 0 ∷ 5 ∷ 0 ∷ 0 ∷ 0 ∷ 0 ∷ []

pub accepted_table : is_table img ≡ true
unfolding day_of
accepted_table = refl

-- the timer's event
abbrev pub e : Event
e = record { queue = 1; tag = at 5 0; reactions = no_keys word_count; terminal = false; control = false; network = false; action = 0; stored = at 0 0 }

abbrev pub entry : Event → ℕ → Fate → Entry
entry e n f = record { event = e; by = n; fate = f }

-- ---- a reset twice: the second drops what the first one made, and makes its own

abbrev pub cs : List Call
cs = transit 0 0 true (at 0 0) ∷ transit 0 0 true (at 0 0) ∷ []

abbrev pub right : History
right = entry e 0 (dropped 1) ∷ entry e 1 waits ∷ []

pub is_right : history_of img cs ≡ right
unfolding day_of entries_from fate_from fate_at turn_from new_by pop_takes reset_drops transition_events startup_events timer_events reset_events
is_right = refl

-- it is not so that the second did nothing
abbrev pub merged : History
merged = entry e 0 waits ∷ []

pub not_merged : Told img cs merged → ⊥
unfolding day_of keep new_by transition_events startup_events timer_events reset_events
not_merged t = let z : [] ≡ e ∷ [] = t.made 1 (omega arith) in let y : ◌≡◌ {A = ℕ} 0 1 = cc in omega arith

-- nor that it made its own and left the first
abbrev pub doubled : History
doubled = entry e 0 waits ∷ entry e 1 waits ∷ []

pub not_doubled : Told img cs doubled → ⊥
unfolding day_of waits_at reset_drops
not_doubled t = let z : false ≡ true = (t.fate 0 (entry e 0 waits) (omega arith)).ended.by_reset 1 (omega arith) in no_way z

-- ---- a reset, a plain event at the timer's time, and a pop: the root's event in turn 0, the scope's in turn 1; the second reset's waits

abbrev pub bs : List Call
bs = transit 0 0 true (at 0 0) ∷ plain (at 5 0) true [] ∷ pop ∷ transit 0 0 true (at 5 0) ∷ []

abbrev pub p : Event
p = root_event (at 5 0) (no_keys word_count) true false false

pub is_both :
    history_of img bs ≡
    entry e 0 (popped 2 1) ∷ entry p 1 (popped 2 0) ∷ entry e 3 waits ∷ []
unfolding day_of entries_from fate_from fate_at turn_from new_by pop_takes reset_drops transition_events startup_events timer_events reset_events scope_turns turns_of
is_both = refl

-- ---- a control event, and a pop: the root's turn is 0

abbrev pub ds : List Call
ds = control (at 3 0) ∷ pop ∷ []

abbrev pub c : Event
c = root_event (at 3 0) (no_keys word_count) false true false

abbrev pub turned : ℕ → History
turned r = entry c 0 (popped 1 r) ∷ []

pub not_turned : Told img ds (turned 200) → ⊥
unfolding day_of waits_in pop_takes scope_turns turns_of
not_turned t = let z : true ≡ false = (t.fate 0 (entry c 0 waits) (omega arith)).ended.by_pop 1 200 (omega arith) in no_way (sym z)

-- ---- what wrong managers would have to tell

-- a pop that also swallows a later control event, which no answer shows
abbrev pub later : Event
later = root_event (at 6 0) (no_keys word_count) false true false

pub not_swallowed : Told img (plain (at 5 0) true [] ∷ control (at 6 0) ∷ pop ∷ []) (entry p 0 (popped 2 0) ∷ entry later 1 (popped 2 0) ∷ []) → ⊥
unfolding day_of waits_in pop_takes scope_turns turns_of
not_swallowed t = let z : true ≡ false = (t.fate 1 (entry later 1 waits) (omega arith)).ended.by_pop 2 0 (omega arith) in no_way (sym z)

-- an event lost at a transition that is no reset
pub not_lost : Told img (transit 0 0 true (at 0 0) ∷ transit 0 0 false (at 1 0) ∷ []) (entry e 0 (dropped 1) ∷ []) → ⊥
unfolding day_of waits_at reset_drops
not_lost t = let z : true ≡ false = (t.fate 0 (entry e 0 waits) (omega arith)).ended.by_reset 1 (omega arith) in no_way (sym z)
