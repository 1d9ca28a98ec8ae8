-- The state rules of a state handed in with its counts, and the parts that are tested on rows. Assumes nothing.
use Rattle.std.specs.Prelude.{ℕ, ◌*◌, Bool, not, ◌&&◌, ◌||◌, List, ltb, leb, eqb, take}
use Rattle.lists.specs.Lists.{every, count, from}
use Rattle.table_rows.specs.Bytes.{Image}
use Rattle.table_rows.specs.Limits.{limits}
use Rattle.tags.specs.Tags.{within_clock}
use Rattle.key_set.specs.Sets.{has, word_count}
use Rattle.machine.specs.Table.{scopes, reactors}
use Rattle.machine.specs.State.{Event, Scope, State, ordinary, no_state, with_modes, with_scopes, with_queue}
use Rattle.machine.specs.Machine.{mode_rules, scope_rules, event_rules, queue_rules, image_rules, rules}
use Rattle.state_events.specs.Slots.{events_of}
use Rattle.state_scopes.specs.Scopes.{scopes_of}
use Rattle.state_room.specs.declared.Counts.{Counts}
use Rattle.state_room.specs.Holds.{Rows, state_in}

-- no more are counted than may be, and the state that is counted keeps the rules
unfoldable pub sound : Image → ℕ → ℕ → ℕ → State → Bool
sound img waiting held open-buckets s =
    let most = limits img in leb waiting most.waiting && (leb held most.held && (leb open-buckets most.held && rules img s))

-- of lent rows
abbrev pub sound_in : Image → Rows → Bool
sound_in img r = sound img r.ledger.counts.waiting r.ledger.held.values r.ledger.held.buckets (state_in img r)

-- ---- parts, on the rows' own scopes

-- a state of these parts, with nothing held: of modes and scopes as many as the table has
abbrev pub state_of : Image → List ℕ → List Scope → List Event → ℕ → State
state_of img modes ss es work = with_queue (with_scopes (with_modes no_state (take (reactors img) modes)) (take (scopes img) ss)) es work

-- all keys of a set are below n
abbrev pub keys_below : List ℕ → ℕ → Bool
keys_below ws n = every (λ k. not (has ws k) || ltb k n) (from 0 (word_count * 64))

unfoldable pub event_keeps : Image → List Scope → Event → Bool
event_keeps img ss e = event_rules img e && (queue_rules img e && image_rules ss e)

-- ---- what is tested together

unfoldable pub scopes_sound : Image → List ℕ → List Scope → ℕ → Bool
scopes_sound img modes ss n = every (mode_rules img) modes && (every (λ x. within_clock x.clock) (take n ss) && every (scope_rules img modes ss) (from 0 n))

unfoldable pub queue_sound : Image → List Scope → List Event → ℕ → Bool
queue_sound img ss es work = every (event_keeps img ss) es && eqb work (count ordinary es)

-- all rules but the store's
abbrev pub queue_rules_in : Image → List ℕ → List ℕ → List ℕ → Counts → Bool
queue_rules_in img modes ss es c = rules img (state_of img modes (scopes_of ss) (take c.waiting (events_of es)) c.work)
