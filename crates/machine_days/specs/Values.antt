-- Document 01, "Values and level walks" through the machine: s1 to s3, refusals in order, and a store that is full. A day has no
-- such calls; the answers are 01's words worked out. Assumes nothing.
use Rattle.std.specs.Prelude.{ℕ, ◌≡◌, refl, Bool, true, false, List, [], ◌∷◌, map, replicate}
use Rattle.lists.specs.Lists.{from}
use Rattle.refusals.specs.declared.Refusal.TheVariants as R
use Rattle.table_rows.specs.Bytes.{Image}
use Rattle.table_rows.specs.Rows.{none}
use Rattle.tags.specs.Tags.{at, fresh_clock}
use Rattle.machine.specs.State.{Scope, State, root_event, fresh_scope}
use Rattle.machine.specs.Machine.{Call, plain, transit, push_value, next_step, take_value, clear_before, move_value, clear_action, ok, refusal, nothing, number, answer, perform, step}
use Rattle.machine_days.specs.Computed.{day_of, performed, scope, clock, value, bucket}

-- one scope, one reactor without a mode, a physical action 0 and a logical action 1
abbrev pub store_image : Image
store_image =
    0 ∷ 0 ∷ 0 ∷ 35 ∷ 1 ∷ 0 ∷ 1 ∷ 0 ∷ 1 ∷ 0 ∷ 0 ∷ 0 ∷ 0 ∷ 0 ∷ 2 ∷ 0 ∷ 0 ∷ 0 ∷ 0 ∷ 0 ∷ 0 ∷ 0 ∷ 0 ∷
    255 ∷ 255 ∷ 0 ∷ 0 ∷ 255 ∷ 255 ∷ 0 ∷ 0 ∷ 255 ∷ 255 ∷ 0 ∷ 0 ∷ 0 ∷ 0 ∷ 0 ∷ 1 ∷ []

abbrev pub store_calls : List Call
store_calls =
    push_value 0 (at 5 4294967295) 1 ∷
    next_step 0 5 0 ∷
    clear_action 0 ∷
    next_step 0 5 0 ∷
    next_step 0 5 4294967295 ∷
    push_value 1 (at 5 3) 8 ∷
    push_value 1 (at 5 1) 7 ∷
    clear_before 1 (at 5 2) ∷
    next_step 1 5 0 ∷
    take_value 1 (at 5 1) ∷
    take_value 1 (at 5 3) ∷
    next_step 1 5 0 ∷
    next_step 1 5 9 ∷
    clear_before 1 (at 5 0) ∷
    next_step 1 5 0 ∷
    push_value 0 (at 5 1) 4 ∷
    push_value 0 (at 5 1) 6 ∷
    move_value 0 (at 5 1) (at 5 1) ∷
    move_value 0 (at 9 1) (at 5 1) ∷
    move_value 0 (at 5 1) (at 6 0) ∷
    next_step 0 5 0 ∷
    next_step 0 6 0 ∷
    take_value 0 (at 5 1) ∷
    take_value 0 (at 6 0) ∷
    take_value 0 (at 6 0) ∷
    []

-- s1 (none at the limit), s2 ((5,3) stays, next microstep 4), a bucket cleared where no value is left, an overwritten value, s3,
-- a move that leaves its bucket, and "nothing" for what is not held
pub store_day : day_of store_image store_calls ≡
    record {
      replies =
          ok ∷ nothing ∷ ok ∷ number 0 ∷ nothing ∷
          ok ∷ ok ∷ ok ∷ number 4 ∷ nothing ∷ number 8 ∷ number 4 ∷ number 9 ∷ ok ∷ number 0 ∷
          ok ∷ ok ∷ ok ∷ ok ∷ ok ∷ number 2 ∷ number 1 ∷ nothing ∷ number 6 ∷ nothing ∷
          [];
      end =
          record {
            modes = none ∷ [];
            scopes = scope (clock (at 0 0) (at 0 0) true (at 0 0)) true true ∷ [];
            waiting = [];
            work = 0;
            store = record { values = []; buckets = bucket 0 5 2 ∷ bucket 0 6 1 ∷ [] };
          };
    }
unfolding day_of
store_day = refl

abbrev pub refused_calls : List Call
refused_calls =
    push_value 2 (at 4611686018427387904 0) 0 ∷
    move_value 2 (at 4611686018427387904 0) (at 1 1) ∷
    take_value 2 (at 4611686018427387904 0) ∷
    clear_before 2 (at 4611686018427387904 0) ∷
    next_step 2 4611686018427387904 0 ∷
    clear_action 2 ∷
    push_value 0 (at 4611686018427387904 0) 0 ∷
    move_value 0 (at 4611686018427387904 0) (at 1 1) ∷
    move_value 0 (at 1 1) (at 4611686018427387904 0) ∷
    take_value 0 (at 4611686018427387904 0) ∷
    clear_before 0 (at 4611686018427387904 0) ∷
    next_step 0 4611686018427387904 0 ∷
    []

-- "for the value store 11, 5, 6, 9"
pub store_refuses : (day_of store_image refused_calls).replies ≡
    (refusal R.Key ∷ refusal R.Key ∷ refusal R.Key ∷ refusal R.Key ∷ refusal R.Key ∷ refusal R.Key ∷
    refusal R.ArgumentTag ∷ refusal R.ArgumentTag ∷ refusal R.ArgumentTag ∷ refusal R.ArgumentTag ∷ refusal R.ArgumentTag ∷
    refusal R.ArgumentTag ∷ [])
unfolding day_of
store_refuses = refl

-- ---- 256 of each

-- 256 values and 256 buckets of action 0, at (0,1) to (255,1), and 256 events of the root
abbrev pub full : List ℕ → List Scope → State
full modes scopes =
    record {
      modes = modes;
      scopes = scopes;
      waiting = replicate 256 (root_event (at 5 0) (0 ∷ 0 ∷ []) false false false);
      work = 256;
      store = record { values = map (λ i. value 0 (at i 1) i) (from 0 256); buckets = map (λ i. bucket 0 i 2) (from 0 256) };
    }

abbrev pub full_flat : State
full_flat = full (none ∷ []) (fresh_scope true ∷ [])

abbrev pub full_calls : List Call
full_calls =
    push_value 0 (at 3 1) 9 ∷
    push_value 0 (at 3 2) 9 ∷
    push_value 1 (at 3 1) 9 ∷
    move_value 0 (at 3 1) (at 4 5) ∷
    move_value 0 (at 5 1) (at 300 0) ∷
    take_value 0 (at 6 1) ∷
    push_value 0 (at 300 0) 1 ∷
    push_value 0 (at 7 9) 1 ∷
    clear_before 0 (at 2 0) ∷
    push_value 0 (at 300 0) 1 ∷
    take_value 0 (at 4 5) ∷
    []

-- an overwritten value and a moved one need no new slot; a new value or a new bucket does (9); freed slots serve again
pub full_store : (performed store_image full_flat full_calls).replies ≡
    (ok ∷ refusal R.Held ∷ refusal R.Held ∷ ok ∷ refusal R.Held ∷ number 6 ∷ refusal R.Held ∷ ok ∷ ok ∷ ok ∷ number 9 ∷ [])
unfolding day_of performed
full_store = refl

-- such a state breaks no rule, and a refused call hands it back
pub full_refused : step store_image full_flat (plain (at 6 0) false []) ≡ answer (refusal R.Waiting) full_flat
unfolding day_of
full_refused = refl

-- two modes; the second one's scope has a logical action 1 with a startup row and a timer
abbrev pub turn_image : Image
turn_image =
    0 ∷ 0 ∷ 0 ∷ 76 ∷ 1 ∷ 0 ∷ 3 ∷ 0 ∷ 1 ∷ 0 ∷ 2 ∷ 0 ∷ 1 ∷ 0 ∷ 2 ∷ 0 ∷ 0 ∷ 0 ∷ 1 ∷ 0 ∷ 0 ∷ 0 ∷ 1 ∷
    255 ∷ 255 ∷ 0 ∷ 0 ∷ 255 ∷ 255 ∷ 0 ∷ 0 ∷ 0 ∷ 0 ∷ 0 ∷ 0 ∷ 0 ∷ 0 ∷ 0 ∷ 0 ∷ 0 ∷ 1 ∷
    0 ∷ 0 ∷ 0 ∷ 0 ∷ 0 ∷ 1 ∷ 0 ∷ 0 ∷ 0 ∷ 2 ∷ 0 ∷ 0 ∷ 0 ∷
    0 ∷ 0 ∷ 0 ∷ 0 ∷ 2 ∷ 1 ∷ 0 ∷ 2 ∷ 0 ∷ 1 ∷ 0 ∷ 0 ∷ 0 ∷ 1 ∷ 0 ∷ 0 ∷ 0 ∷ 0 ∷ 0 ∷ 0 ∷ 0 ∷ 5 ∷ 0 ∷ 0 ∷ 0 ∷ 0 ∷ []

-- in the first mode, where the second one's scope was active before, or not
abbrev pub full_modal : Bool → State
full_modal before = full (0 ∷ []) (fresh_scope true ∷ fresh_scope true ∷ scope (fresh_clock false) false before ∷ [])

-- "a value before its event": step 4's startup value, and step 5's timer value, are 9 before their events are 8
pub startup_value_first : perform turn_image (full_modal false) (transit 0 1 false (at 10 0)) ≡ answer (refusal R.Held) (full_modal false)
unfolding day_of
startup_value_first = refl

pub timer_value_first : perform turn_image (full_modal true) (transit 0 1 true (at 10 0)) ≡ answer (refusal R.Held) (full_modal true)
unfolding day_of
timer_value_first = refl
