-- The manager as rows and back: the state in them, its rules, and the state that is packed again. Assumes nothing.
use mathlib.Core.Bool.{Bool, true}
use mathlib.Core.Path.{◌≡◌, refl, ◌∙◌, sym, subst}
use mathlib.Core.List.{List, map}
use Prim.Native.Nat.{ℕ, ◌≤◌}
use native.Mathlib.Nat.{le_trans, min-eq_left}
use lib.Dec.{leb}
use lib.ListN.{length, take, replicate, length-take, length-map}
use borrow.Author.Tests.{leb-true}
use Rattle.lists.specs.Tests.{and_left, and_right}
use Rattle.table_rows.specs.Bytes.{Image}
use Rattle.table_rows.specs.Limits.{limits}
use Rattle.table.specs.Check.{is_table, check}
use Rattle.std.specs.Prelude.{Ok, Err}
use Rattle.table.specs.Check.{Checked}
use Rattle.tags.specs.Views.{of_clock}
use Rattle.store_words.specs.Entries.{room_for_entries, held_fits, blank_value, blank_bucket, of_value, of_bucket}
use Rattle.store_words.specs.Words.{HeldValues, HeldBuckets}
use Rattle.store_rules.proofs.Kept.{Kept as KeptStore, rules_kept}
use Rattle.machine.specs.Table.{scopes, reactors, actions}
use Rattle.machine.specs.State.{State, fresh, no_state}
use Rattle.machine.specs.Machine.{rules}
use Rattle.machine_rules_kept.specs.Steps.{Ruled}
use Rattle.state_fresh.specs.Fresh.{Bare, bare_queued, bare_stored}
use Rattle.state_events.specs.Slots as slot
use Rattle.state_events.specs.Slots.{event_of, room_for_events, waiting_fits}
use Rattle.state_scopes.specs.Scopes as scope
use Rattle.state_scopes.specs.Scopes.{most_scopes}
use Rattle.state_room.specs.Padded.{padded, padded_none, padded_take}
use Rattle.state_room.specs.PartRows.{Scoped, Queued, Stored, most_reactors}
use Rattle.state_room.specs.Holds.{Rows, state_in, Holds, Kept, most_scopes_lem, most_reactors_lem, rules_table}
use Rattle.state_room.proofs.Holds.{ruled_holds}
use Rattle.state_rules.specs.Sound.{sound, sound_in}
use Rattle.manager.specs.Arrays.{Arrays, view_of, packed, is_sound, fresh_over}
use Rattle.manager.specs.Views.{joined, arrays_of, arrays_in, Unpacks}
use Rattle.manager.specs.declared.Manager.{Manager}
use Rattle.manager.proofs.Front.{front_view, scopes_long}

-- ---- to rows

pub unpacks :
    (img : Image) (m : Manager) (ms sws ews vws bws : List ℕ) {r n : ℕ} →
    length m.clocks ≡ most_scopes → length m.active ≡ most_scopes → length m.ever ≡ most_scopes → length m.modes ≡ most_reactors →
    length m.slots ≡ room_for_events → length m.store.values ≡ room_for_entries → length m.store.buckets ≡ room_for_entries →
    r ≡ reactors img → n ≡ scopes img → ms ≡ padded 0 most_reactors (take r m.modes) →
    Scoped (take n (joined (map of_clock m.clocks) m.active m.ever)) sws →
    slot.Held ews (padded slot.blank room_for_events (take m.waiting (map event_of m.slots))) →
    HeldValues vws (padded blank_value room_for_entries (take m.store.held (map of_value m.store.values))) →
    HeldBuckets bws (padded blank_bucket room_for_entries (take m.store.«open» (map of_bucket m.store.buckets))) →
    Unpacks img (arrays_of m)
    (record {
      scopes = sws;
      events = ews;
      values = vws;
      buckets = bws;
      ledger =
          record {
            modes = ms;
            counts = record { waiting = m.waiting; work = m.work };
            held = record { values = m.store.held; buckets = m.store.«open» };
          };
    })
unpacks img m ms sws ews vws bws lc la le lm ls lv lb er en em es ee ev eb =
    record {
      full =
          record {
            scopes = scopes_long m.clocks m.active m.ever lc la le;
            modes = lm;
            slots = length-map m.slots event_of ∙ ls;
            values = length-map m.store.values of_value ∙ lv;
            buckets = length-map m.store.buckets of_bucket ∙ lb;
          };
      moded = rw er at em;
      scoped = rw en at es;
      events = ee;
      values = ev;
      buckets = eb;
      counted = refl;
      held = refl;
    }

-- ---- and back

pub packs :
    (t : State) (u : Rows) → u.ledger.modes ≡ padded 0 most_reactors t.modes → Scoped t.scopes u.scopes →
    Queued t.waiting t.work u.events u.ledger.counts → Stored t.store u.values u.buckets u.ledger.held → arrays_in u ≡ packed t
packs t u m s q h =
    rw (s.things, m, q.held.things, q.waiting, q.work, h.values.things, h.some_values, h.buckets.things, h.some_buckets)

pub holds_packs : (img : Image) (t : State) (u : Rows) → Holds img t u → arrays_in u ≡ packed t
holds_packs img t u h = packs t u h.moded h.scoped h.queued h.stored

-- what a state handed in that is sound keeps
module _ (img : Image) (a : Arrays) (s : is_sound img a ≡ true) where
  pub rules_of_sound : rules img (view_of img a) ≡ true
  unfolding is_sound sound
  rules_of_sound =
      let l = limits img in and_right (leb a.store.«open» l.held) _ (and_right (leb a.store.held l.held) _ (and_right (leb a.waiting l.waiting) _ s))

  pub table_of_sound : is_table img ≡ true
  table_of_sound = rules_table img (view_of img a) rules_of_sound

module _ (img : Image) (a : Arrays) (u : Rows) (x : Unpacks img a u) where
  -- the state that the rows hold
  state_is : state_in img u ≡ view_of img a
  state_is =
      let f = x.full in
      rw (
        x.moded,
        front_view 0 most_reactors a.modes f.modes (reactors img),
        x.scoped.things,
        front_view scope.blank most_scopes a.scopes f.scopes (scopes img),
        x.counted,
        x.events.things,
        front_view slot.blank room_for_events a.slots f.slots a.waiting,
        x.held,
        x.values.things,
        front_view blank_value room_for_entries a.store.values f.values a.store.held,
        x.buckets.things,
        front_view blank_bucket room_for_entries a.store.buckets f.buckets a.store.«open»,
      )

  pub sound_is : {b : Bool} → b ≡ sound_in img u → b ≡ is_sound img a
  unfolding is_sound
  sound_is e = e ∙ rw (state_is, x.counted, x.held)

  -- where they keep the rules, their counts are the state's own
  module _ (s : is_sound img a ≡ true) where
    long : {A : Type 0} (n N : ℕ) (l : List A) → n ≤ N → length l ≡ N → n ≡ length (take n l)
    long n N l h e = sym (length-take n l ∙ min-eq_left (rw e h))

    pub holds : Holds img (view_of img a) u
    unfolding is_sound sound
    holds =
        let f = x.full in
        let l = limits img in
        let v = and_right (leb a.waiting l.waiting) _ s in
        let w = le_trans (leb-true _ _ (and_left (leb a.waiting l.waiting) _ s)) (waiting_fits img) in
        let n = le_trans (leb-true _ _ (and_left (leb a.store.held l.held) _ v)) (held_fits img) in
        let o = le_trans (leb-true _ _ (and_left (leb a.store.«open» l.held) _ (and_right (leb a.store.held l.held) _ v))) (held_fits img) in
        ruled_holds img (view_of img a) (rules_of_sound img a s) u x.moded x.scoped
        (rw x.counted (record { held = x.events; waiting = long a.waiting room_for_events a.slots w f.slots; work = refl }))
        (rw x.held
        (record {
          values = x.values;
          buckets = x.buckets;
          some_values = long a.store.held room_for_entries a.store.values n f.values;
          some_buckets = long a.store.«open» room_for_entries a.store.buckets o f.buckets;
        }))

    pub kept : Kept img u
    kept =
        let e = sym state_is in
        record {
          keeps = subst (λ t. rules img t ≡ true) e (rules_of_sound img a s);
          holds = subst (λ t. Holds img t u) e holds;
        }

-- ---- a fresh manager

module _ (img : Image) {k : Checked} (ek : k ≡ check img) where
  module _ (y : k ≡ Ok tt) where
    pub fresh_table : is_table img ≡ true
    unfolding is_table
    fresh_table = let c : check img ≡ Ok tt = sym ek ∙ y in rw c

    pub fresh_packs : (u : Rows) {m : Arrays} → Holds img (fresh img) u → m ≡ arrays_in u → m ≡ fresh_over img
    unfolding fresh_over
    fresh_packs u h q = let t = fresh_table in rw t (q ∙ holds_packs img (fresh img) u h)

  pub blank_packs :
      (u : Rows) {x : _} {ss : List ℕ} {m : Arrays} → k ≡ Err x → scope.Held ss (replicate most_scopes scope.blank) →
      Bare (replicate most_reactors 0) ss u → m ≡ arrays_in u → m ≡ fresh_over img
  unfolding fresh_over is_table
  blank_packs u y h b q =
      let c : check img ≡ Err _ = sym ek ∙ y in
      rw c
      (q ∙
      packs no_state u (rw (b.ledger_is, padded_none {A = ℕ} 0 most_reactors)) (rw (b.scopes_are, padded_none scope.blank most_scopes) h) (bare_queued b) (bare_stored b))

-- ---- what is packed is read again

module _ (img : Image) (s : State) (t : is_table img ≡ true) (h : Ruled img s) where
  again : {A : Type 0} (b : A) (n N : ℕ) (l : List A) → length l ≡ n → n ≤ N → take n (padded b N l) ≡ l
  again b n N l e f = rw (← e) (padded_take b N l (rw e f))

  pub view_packed : view_of img (packed s) ≡ s
  view_packed =
      let o = h.sound in
      let f : KeptStore (limits img).held (actions img) s.store = rules_kept (limits img).held (actions img) s.store o.stored in
      rw (
        again {A = ℕ} 0 (reactors img) most_reactors s.modes o.moded.long (most_reactors_lem img t),
        again scope.blank (scopes img) most_scopes s.scopes o.scoped.long (most_scopes_lem img t),
        padded_take slot.blank room_for_events s.waiting (le_trans o.queued.room (waiting_fits img)),
        padded_take blank_value room_for_entries s.store.values (le_trans f.few_values (held_fits img)),
        padded_take blank_bucket room_for_entries s.store.buckets (le_trans f.few_buckets (held_fits img)),
      )
