-- A fresh manager's scopes, one by one, and that a room of these and of nothing holds a fresh state. Assumes nothing.
use Rattle.std.specs.Prelude.{Bool, true, ◌≡◌, refl, List, [], ◌∷◌, map, ℕ, ◌≤◌, length, take, replicate}
use Rattle.std.proofs.Common.{ap, sym}
use Rattle.std.proofs.lemmas.List.{length-map}
use Rattle.lists.specs.Lists.{from}
use Rattle.lists.specs.Every.{length_from}
use Rattle.table_rows.specs.Bytes.{Image}
use Rattle.table_rows.specs.Rows.{initial_mode}
use Rattle.table.specs.Check.{is_table}
use Rattle.table_schedule.specs.Schedule.{is_active}
use Rattle.store_words.specs.Entries.{room_for_entries, blank_value, blank_bucket}
use Rattle.store_words.specs.Words.{HeldValues, HeldBuckets}
use Rattle.store.specs.Store.{empty_store}
use Rattle.machine.specs.Table.{scopes, reactors}
use Rattle.machine.specs.State.{Scope, fresh_scope, fresh}
use Rattle.state_events.specs.Slots.{room_for_events}
use Rattle.state_events.specs.Slots as slot
use Rattle.state_room.specs.Padded.{padded, padded_none, padded_length, padded_take}
use Rattle.state_room.specs.PartRows.{Queued, Stored, Scoped, most_reactors, bare_ledger}
use Rattle.machine_rules_kept.specs.Kept.{fresh_rules}
use Rattle.state_room.specs.Holds.{Rows, Holds, most_reactors_lem}
use Rattle.state_room.proofs.Holds.{ruled_holds}

abbrev pub fresh_modes : Image → List ℕ
fresh_modes img = map (initial_mode img) (from 0 (reactors img))

abbrev pub fresh_scopes : Image → List ℕ → List Scope
fresh_scopes img modes = map (λ i. fresh_scope (is_active img modes i)) (from 0 (scopes img))

-- these modes and scopes, and nothing waits or is held
pub record Bare (modes ss : List ℕ) (r : Rows) : Type 0 where
  pub scopes_are : r.scopes ≡ ss
  pub events : slot.Held r.events (replicate room_for_events slot.blank)
  pub values : HeldValues r.values (replicate room_for_entries blank_value)
  pub buckets : HeldBuckets r.buckets (replicate room_for_entries blank_bucket)
  pub ledger_is : r.ledger ≡ bare_ledger modes

scopes_fresh : (f : ℕ → Bool) (l : List ℕ) → map fresh_scope (map f l) ≡ map (λ i. fresh_scope (f i)) l
scopes_fresh f [] = refl
scopes_fresh f (i ∷ l) = ap (fresh_scope (f i) ∷◌) (scopes_fresh f l)

-- no event waits, no value and no bucket is held
pub bare_queued : {modes ss : List ℕ} {r : Rows} → Bare modes ss r → Queued [] 0 r.events r.ledger.counts
bare_queued h = rw h.ledger_is (record { held = rw (padded_none slot.blank room_for_events) h.events; waiting = refl; work = refl })

pub bare_stored : {modes ss : List ℕ} {r : Rows} → Bare modes ss r → Stored empty_store r.values r.buckets r.ledger.held
bare_stored h =
    rw h.ledger_is
    (record {
      values = rw (padded_none blank_value room_for_entries) h.values;
      buckets = rw (padded_none blank_bucket room_for_entries) h.buckets;
      some_values = refl;
      some_buckets = refl;
    })

pub fresh_holds : (img : Image) → is_table img ≡ true → (modes ss : List ℕ) (r : Rows) → modes ≡ padded 0 most_reactors (fresh_modes img) →
    Scoped (fresh_scopes img (fresh_modes img)) ss → Bare modes ss r → Holds img (fresh img) r
unfolding fresh
fresh_holds img t modes ss r m s b =
    ruled_holds img (fresh img) (fresh_rules img t) r (rw b.ledger_is m)
    (rw (b.scopes_are, scopes_fresh (is_active img (fresh_modes img)) (from 0 (scopes img))) s) (bare_queued b) (bare_stored b)

-- ---- the modes in use, read back

module _ (img : Image) (t : is_table img ≡ true) (modes : List ℕ) (e : modes ≡ padded 0 most_reactors (fresh_modes img)) (n : ℕ) (k : n ≡ reactors img) where
  long : length (fresh_modes img) ≡ n
  long = rw (length-map, length_from) (sym k)

  pub modes_room : n ≤ length modes
  modes_room = rw (e, padded_length, k) (most_reactors_lem img t)

  pub modes_taken : take n modes ≡ fresh_modes img
  modes_taken = let p = padded_take 0 most_reactors (fresh_modes img) (rw (long, k) (most_reactors_lem img t)) in rw e (rw long at p)
