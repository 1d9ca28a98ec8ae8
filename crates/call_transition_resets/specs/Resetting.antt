-- Step 1 in the parts that the code takes it in. Assumes nothing.
use Rattle.std.specs.Prelude.{Bool, cond, ◌&&◌, List, ℕ, ltb, get_or, length}
use Rattle.lists.specs.Lists.{lose}
use Rattle.lists.specs.Rows.{tab}
use Rattle.table_rows.specs.Bytes.{Image}
use Rattle.table_rows.specs.Rows.{action_scope, is_logical}
use Rattle.key_set.specs.Sets.{has}
use Rattle.store_words.specs.Entries.{Value, Bucket}
use Rattle.store.specs.Store.{Store}
use Rattle.machine.specs.Table.{actions}
use Rattle.machine.specs.State.{State, clocked, without, with_store, with_scopes}
use Rattle.machine.specs.Transition.{dropped, zeroed, reset_scopes, reset_store}
use Rattle.state_scopes.specs.Scopes.{Scope, blank}
use Rattle.state_room.specs.Holds.{Rows, Holds}
use Rattle.call_transition_plan.specs.declared.Plan.{Plan}
use Rattle.call_transition_plan.specs.Plans.{plan_in}

-- ---- by the set

-- without the events of its scopes
abbrev pub dropped_in : List ℕ → State → State
dropped_in set s = without (λ e. has set e.queue) s

abbrev pub zeroed_scope : Scope → Scope
zeroed_scope x = clocked (zeroed x.clock) x

abbrev pub scope_after : List ℕ → ℕ → Scope → Scope
scope_after set i x = cond (has set i) (zeroed_scope x) x

abbrev pub zeroed_scopes : List ℕ → List Scope → List Scope
zeroed_scopes set ss = tab (λ i. scope_after set i (get_or ss i blank)) 0 (length ss)

-- a logical action of the table whose scope is in it
unfoldable pub clears : Image → List ℕ → ℕ → Bool
clears img set a = ltb a (actions img) && (has set (action_scope img a) && is_logical img a)

abbrev pub clears_value : Image → List ℕ → Value → Bool
clears_value img set v = clears img set v.action

abbrev pub clears_bucket : Image → List ℕ → Bucket → Bool
clears_bucket img set b = clears img set b.action

-- without what these actions have
abbrev pub cleared_all : Image → List ℕ → Store → Store
cleared_all img set st = record { values = lose (clears_value img set) st.values; buckets = lose (clears_bucket img set) st.buckets }

-- ---- by the machine's plan

-- its events and its store
abbrev pub rows_reset : Image → List Bool → State → State
rows_reset img ins s = with_store (without (dropped ins) s) (reset_store img ins s.store)

-- step 1, the modes apart
abbrev pub cleared : Image → List Bool → State → State
cleared img ins s = with_scopes (rows_reset img ins s) (reset_scopes ins s.scopes)

-- what it does to rows
abbrev pub Resets : Image → Plan → Rows → Rows → Type 0
Resets img p before after = (s : State) → Holds img s before → Holds img (cleared img (plan_in img p).inside s) after
