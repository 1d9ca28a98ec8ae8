-- What the comparison with the Rust leaves out: a transition at the microstep limit, and two moves of one value to unlike tags.
-- The answers are 01's words worked out. Assumes nothing.
use Rattle.std.specs.Prelude.{◌≡◌, refl, true, false, List, [], ◌∷◌}
use Rattle.refusals.specs.declared.Refusal.TheVariants as R
use Rattle.table_rows.specs.Bytes.{Image}
use Rattle.tags.specs.Tags.{at}
use Rattle.key_set.specs.Sets.{no_keys, word_count}
use Rattle.machine.specs.Machine.{Call, action, transit, pop, active_now, ever_active, ok, refusal, ready, flag}
use Rattle.machine_days.specs.Computed.{day_of, scope, clock, value, bucket}

-- two modes, and a logical action in the second one's scope with a timer at (0,3)
abbrev pub moves_image : Image
moves_image =
    0 ∷ 0 ∷ 0 ∷ 66 ∷ 1 ∷ 0 ∷ 3 ∷ 0 ∷ 1 ∷ 0 ∷ 2 ∷ 0 ∷ 0 ∷ 0 ∷ 1 ∷ 0 ∷ 0 ∷ 0 ∷ 0 ∷ 0 ∷ 0 ∷ 0 ∷ 1 ∷
    255 ∷ 255 ∷ 0 ∷ 0 ∷ 255 ∷ 255 ∷ 0 ∷ 0 ∷ 0 ∷ 0 ∷ 0 ∷ 0 ∷ 0 ∷ 0 ∷ 0 ∷ 0 ∷ 0 ∷ 1 ∷
    0 ∷ 0 ∷ 0 ∷ 0 ∷ 0 ∷ 1 ∷ 0 ∷ 0 ∷ 0 ∷ 2 ∷ 0 ∷ 0 ∷ 0 ∷ 2 ∷ 1 ∷
    0 ∷ 0 ∷ 0 ∷ 0 ∷ 0 ∷ 0 ∷ 0 ∷ 0 ∷ 0 ∷ 0 ∷ 0 ∷ 0 ∷ 0 ∷ 3 ∷ []

abbrev pub moves_calls : List Call
moves_calls =
    transit 0 1 true (at 10 0) ∷
    transit 0 0 false (at 10 7) ∷
    transit 0 1 false (at 30 0) ∷
    action 0 (at 30 3) false [] ∷
    transit 0 0 false (at 30 1) ∷
    transit 0 1 false (at 50 0) ∷
    pop ∷
    pop ∷
    []

-- "ties by acceptance": the timer's event and the push both stand at (30,3), with the local tags (0,3) and (0,10); L is (0,8) at last.
-- The first takes the value to (50,3), so the other finds none at (30,3).
pub moves_tie : day_of moves_image moves_calls ≡
    record {
      replies =
          ok ∷ ok ∷ ok ∷ ok ∷ ok ∷ ok ∷
          ready (record { tag = at 50 3; terminal = false; work = true; network = false; held = false; reactions = no_keys word_count; actions = 0 ∷ [] }) ∷
          ready (record { tag = at 50 2; terminal = false; work = true; network = false; held = false; reactions = no_keys word_count; actions = 0 ∷ [] }) ∷
          [];
      end =
          record {
            modes = 1 ∷ [];
            scopes =
                scope (clock (at 0 0) (at 0 0) true (at 0 0)) true true ∷
                scope (clock (at 30 1) (at 30 0) false (at 50 0)) false true ∷
                scope (clock (at 50 0) (at 0 8) false (at 0 8)) true true ∷
                [];
            waiting = [];
            work = 0;
            store = record { values = value 0 (at 50 3) 0 ∷ []; buckets = bucket 0 10 4 ∷ bucket 0 30 4 ∷ bucket 0 50 4 ∷ [] };
          };
    }
unfolding day_of
moves_tie = refl

abbrev pub limit_calls : List Call
limit_calls =
    transit 0 1 false (at 5 4294967295) ∷
    action 0 (at 5 4294967295) false [] ∷
    action 0 (at 6 0) false [] ∷
    pop ∷
    active_now 2 ∷
    active_now 3 ∷
    ever_active 3 ∷
    []

-- without startup rows c is not delayed, so the microstep limit is no 7; m11 by a push: the image of L would be G delayed by zero.
-- A scope that the table lacks is 5.
pub at_limit : (day_of moves_image limit_calls).replies ≡
    (ok ∷ refusal R.MappedTag ∷ ok ∷
    ready (record { tag = at 6 0; terminal = false; work = true; network = false; held = false; reactions = no_keys word_count; actions = 0 ∷ [] }) ∷
    flag true ∷ refusal R.Key ∷ refusal R.Key ∷ [])
unfolding day_of
at_limit = refl
