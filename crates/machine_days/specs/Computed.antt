-- What a day answers and the state that it leaves. All that computes on the way is named once, at `day_of`: a theorem on a day says
-- `unfolding day_of`. Assumes nothing.
use Rattle.std.specs.Prelude.{ℕ, Bool, List, [], ◌∷◌, ◌++◌, map}
use Rattle.lists.specs.Lists.{keep, lose, count as count_of, any, every, distinct, from, upsert, insert_by, sort_by, foldl}
use Rattle.lists.specs.Scan.{scan}
use Rattle.lists.specs.Walk.{walk}
use Rattle.table_rows.specs.Bytes.{Image, be}
use Rattle.table_rows.specs.Kinds.{kinds, kind_of, count_place, count, place}
use Rattle.table_rows.specs.Limits.{versions, limits}
use Rattle.table_rows.specs.Rows.{row_place, field, is_logical}
use Rattle.table_rows.specs.Lineage.{lineage_in, lineage, ancestors, in_subtree, under}
use Rattle.table.specs.Rules.{key_fields, key_exists, keys_exist, parent_rule, agrees, scope_rule, initial_rule, reactor_rule, mode_rule, reaction_rule, action_rule, timer_rule, own_rule, row_rule}
use Rattle.table.specs.Check.{wrong_length, count_fits, bad_count, bad_row, kind_fits, bad_kind, check_rows, check}
use Rattle.tags.specs.Tags.{Tag, Clock, within, same_tag, earlier, delayed, shifted, to_local, to_global, within_clock}
use Rattle.key_set.specs.Sets.{bit, has, insert_key, union_of}
use Rattle.table_schedule.specs.Schedule.{names_mode, is_modal, is_current, is_active, reactions_of, triggers_of, startups_of, resets_of}
use Rattle.store_words.specs.Entries.{Value, Bucket}
use Rattle.store.specs.Store.{is_value, is_bucket, following, larger, lacks, pushed, next_in, next_microstep, value_in, taken, is_before, is_there, is_spent, cleared_before, of_action, bucket_of, cleared, moved, covered_by, has_bucket, value_rules, bucket_rules, same_value, same_bucket, store_rules}
use Rattle.table.specs.Check.{is_table}
use Rattle.machine.specs.Table.{scopes, has_parent, set_of}
use Rattle.machine.specs.State.{Scope, State, ordinary, in_queue, at_head, accepted, without, fresh}
use Rattle.machine.specs.Heads.{least_of, root_head, scope_head_of, head_at, scope_head, peek, controlled, control_only, taken as taken_off, take_scopes, taking, add_action, held_at, ready_of}
use Rattle.machine.specs.Transition.{dropped, reset_scopes, reset_store, reset_modes, step1, prepared, leaving, staying, clock_after, maps, owns, stamp, is_later, movers, move_one, entering, turn_by, one_turn, turned, held, firsts, startup_rows, startups, step4, timer_image, timer_event, timer, timer_rows, reset_rows, reset_event, step5, plan_of, turns_on, transition}
use Rattle.machine.specs.Machine.{Call, peek_tag, only_control, ordinary_work, active_now, ever_active, Reply, queue_rules, event_rules, image_rules, scope_rules, mode_rules, sized, rules, keys_ok, root_made, push_root, to_root, local_tag, action_placed, action_made, push_action, perform, step, run, replies}

-- ---- builders

abbrev pub clock : Tag → Tag → Bool → Tag → Clock
clock G L allowed S = record { G = G; L = L; allowed = allowed; S = S }

abbrev pub scope : Clock → Bool → Bool → Scope
scope k active ever = record { clock = k; active = active; ever = ever }

abbrev pub value : ℕ → Tag → ℕ → Value
value a t n = record { action = a; tag = t; value = n }

abbrev pub bucket : ℕ → ℕ → ℕ → Bucket
bucket a o n = record { action = a; offset = o; next = n }

-- ---- a day

-- what was answered, and the state that is left
pub record Day : Type 0 where
  pub replies : List Reply
  pub end : State

unfoldable pub day_of : Image → List Call → Day
unfolding keep lose count_of any every distinct from upsert insert_by sort_by foldl scan walk be kinds kind_of versions limits count_place count place row_place field is_logical lineage_in lineage ancestors in_subtree under key_fields key_exists keys_exist parent_rule agrees scope_rule initial_rule reactor_rule mode_rule reaction_rule action_rule timer_rule own_rule row_rule wrong_length count_fits bad_count bad_row kind_fits bad_kind check_rows check within same_tag earlier delayed shifted to_local to_global within_clock bit has insert_key union_of names_mode is_modal is_current is_active reactions_of triggers_of startups_of resets_of is_value is_bucket following larger lacks pushed next_in next_microstep value_in taken is_before is_there is_spent cleared_before of_action bucket_of cleared moved covered_by has_bucket value_rules bucket_rules same_value same_bucket store_rules is_table has_parent set_of ordinary in_queue at_head accepted without fresh least_of root_head scope_head_of head_at scope_head peek controlled control_only taken_off take_scopes taking add_action held_at ready_of dropped reset_scopes reset_store reset_modes step1 prepared leaving staying clock_after maps owns stamp is_later movers move_one entering turn_by one_turn turned held firsts startup_rows startups step4 timer_image timer_event timer timer_rows reset_rows reset_event step5 plan_of turns_on transition queue_rules event_rules image_rules scope_rules mode_rules sized rules keys_ok root_made push_root to_root local_tag action_placed action_made push_action perform step run replies
day_of img calls = record { replies = replies img (fresh img) calls; end = run img (fresh img) calls }

-- a long day, without the test of the rules at every call
unfoldable pub performed : Image → State → List Call → Day
performed img s [] = record { replies = []; end = s }
performed img s (c ∷ cs) =
    let o = perform img s c in
    let d = performed img o.state cs in
    record { replies = o.reply ∷ d.replies; end = d.end }

unfoldable pub long_day_of : Image → List Call → Day
unfolding day_of performed
long_day_of img calls = performed img (fresh img) calls

-- ---- what can be asked of a state and changes nothing

abbrev pub questions : Image → List Call
questions img = peek_tag ∷ only_control ∷ ordinary_work ∷ (map active_now (from 0 (scopes img)) ++ map ever_active (from 0 (scopes img)))

-- at the start, and after each call
unfoldable pub asked : Image → State → List Call → List (List Reply)
asked img s [] = map (λ q. (perform img s q).reply) (questions img) ∷ []
asked img s (c ∷ cs) = map (λ q. (perform img s q).reply) (questions img) ∷ asked img (perform img s c).state cs

unfoldable pub asked_of : Image → List Call → List (List Reply)
unfolding day_of asked
asked_of img calls = asked img (fresh img) calls
