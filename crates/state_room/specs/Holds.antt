-- One room for the state: all rows and the ledger, the state that they hold, and what a step or a call does to them. Assumes nothing.
use Rattle.std.specs.Prelude.{true, ◌≡◌, refl, List, ℕ, ◌≤◌, length, take, get_or, Result, Ok, Err, ⊤}
use Rattle.std.proofs.Common.{◌∙◌, sym, le_trans, arith}
use Rattle.std.proofs.Math.Dec.{leb}
use borrow.Author.Tests.{leb-true}
use Rattle.lists.specs.Tests.{and_left, and_right}
use Rattle.lists.specs.Lists.{count, every}
use Rattle.lists.specs.Walk.{done, refused, ◌>>=◌}
use Rattle.refusals.specs.declared.Refusal.{Refusal}
use Rattle.table_rows.specs.Bytes.{Image}
use Rattle.table_rows.specs.Kinds as K
use Rattle.table_rows.specs.Limits.{versions, limits, limits_fit}
use Rattle.table.specs.Check.{is_table}
use Rattle.table.proofs.TableLaws.{count_most}
use Rattle.store_words.specs.Entries.{held_fits}
use Rattle.store.specs.Store.{store_rules}
use Rattle.store_calls.specs.Lent.{store_of, Lent}
use Rattle.machine.specs.Table.{scopes, reactors}
use Rattle.machine.specs.State.{State, ordinary}
use Rattle.machine.specs.Transition.{Step}
use Rattle.machine.specs.Machine as M
use Rattle.machine.specs.Machine.{Call, Reply, rules, perform}
use Rattle.machine_rules_kept.specs.Kept.{table_is, rules_tell}
use Rattle.state_events.specs.Slots.{room_for_events}
use Rattle.state_scopes.specs.Scopes.{most_scopes, scopes_of}
use Rattle.state_scopes.proofs.ScopeLaws.{scopes_fit}
use Rattle.state_room.specs.Padded.{padded, padded_take}
use Rattle.state_room.specs.PartRows.{most_reactors, waiting_in, Queued, Stored, Fits, stored_is, stored_lent, Shows, Scoped, scoped_get, scoped_take}
use Rattle.state_room.specs.declared.Ledger.{Ledger}
use Rattle.state_room.specs.declared.Room.{Room}

pub record Rows : Type 0 where
  pub scopes : List ℕ
  pub events : List ℕ
  pub values : List ℕ
  pub buckets : List ℕ
  pub ledger : Ledger

-- of lent arrays and a ledger
abbrev pub rows : List ℕ → List ℕ → List ℕ → List ℕ → Ledger → Rows
rows xs es vs bs l = record { scopes = xs; events = es; values = vs; buckets = bs; ledger = l }

-- of a room by value
abbrev pub rows_of : Room → Rows
rows_of d = record { scopes = d.scopes; events = d.events; values = d.values; buckets = d.buckets; ledger = d.ledger }

-- ---- the state that they hold

-- over an accepted table: each part of the state, and blanks behind it
pub record Holds (img : Image) (s : State) (r : Rows) : Type 0 where
  pub table : is_table img ≡ true
  pub moded : r.ledger.modes ≡ padded 0 most_reactors s.modes
  pub modes_long : length s.modes ≡ reactors img
  pub scoped : Scoped s.scopes r.scopes
  pub scopes_long : length s.scopes ≡ scopes img
  pub queued : Queued s.waiting s.work r.events r.ledger.counts
  pub few : length s.waiting ≤ room_for_events
  pub counted : s.work ≡ count ordinary s.waiting
  pub stored : Stored s.store r.values r.buckets r.ledger.held
  pub fits : Fits (limits img).held s.store

-- they hold some state
pub record Held (img : Image) (r : Rows) : Type 0 where
  pub state : State
  pub holds : Holds img state r

-- it is read back: of modes and scopes as many as the table has, of the others as many as the ledger counts
abbrev pub state_in : Image → Rows → State
state_in img r =
    record {
      modes = take (reactors img) r.ledger.modes;
      scopes = take (scopes img) (scopes_of r.scopes);
      waiting = waiting_in r.events r.ledger.counts;
      work = r.ledger.counts.work;
      store = store_of r.values r.buckets r.ledger.held;
    }

-- as many scopes and reactors as an accepted table's counts allow
pub most_scopes_lem : (img : Image) → is_table img ≡ true → scopes img ≤ most_scopes
most_scopes_lem img t = le_trans (count_most img (table_is img t) K.scope (omega arith)) (scopes_fit img)

pub most_reactors_lem : (img : Image) → is_table img ≡ true → reactors img ≤ most_reactors
unfolding versions every
most_reactors_lem img t = le_trans (count_most img (table_is img t) K.reactor (omega arith)) (limits_fit (λ l. get_or l.most K.reactor 0) most_reactors tt img)

module _ (img : Image) (s : State) (r : Rows) (h : Holds img s r) where
  pub store_is : store_of r.values r.buckets r.ledger.held ≡ s.store
  store_is = stored_is s.store r.values r.buckets r.ledger.held h.stored h.fits

  pub lent : Lent (limits img).held r.values r.buckets r.ledger.held
  lent = stored_lent s.store r.values r.buckets r.ledger.held h.stored h.fits

  few_scopes : length s.scopes ≤ most_scopes
  few_scopes = rw h.scopes_long (most_scopes_lem img h.table)

  pub scopes_are : take (scopes img) (scopes_of r.scopes) ≡ s.scopes
  scopes_are = scoped_take s.scopes r.scopes h.scoped (scopes img) few_scopes h.scopes_long

  pub shows : Shows s r.scopes
  shows i = scoped_get s.scopes r.scopes h.scoped i few_scopes

  pub modes_are : take (reactors img) r.ledger.modes ≡ s.modes
  modes_are = rw (h.moded, ← h.modes_long) (padded_take 0 most_reactors s.modes (rw h.modes_long (most_reactors_lem img h.table)))

-- ---- a state that keeps the rules

pub rules_table : (img : Image) (s : State) → rules img s ≡ true → is_table img ≡ true
unfolding rules
rules_table img s k = and_left (is_table img) _ k

module _ (img : Image) (s : State) (k : rules img s ≡ true) where
  pub rules_fit : Fits (limits img).held s.store
  rules_fit = unfold store_rules in
      let q = (rules_tell img s k).sound.stored in
      let a = leb (length s.store.values) (limits img).held in
      record {
        values = leb-true (length s.store.values) _ (and_left a _ q);
        buckets = leb-true (length s.store.buckets) _ (and_left (leb (length s.store.buckets) (limits img).held) _ (and_right a _ q));
        room = held_fits img;
      }

-- rows whose state keeps them
pub record Kept (img : Image) (r : Rows) : Type 0 where
  pub keeps : rules img (state_in img r) ≡ true
  pub holds : Holds img (state_in img r) r

-- ---- what a step of the machine does to rows

-- what it comes to in the code
abbrev pub Outcome : Type 0
Outcome = Result ⊤ Refusal

-- done: they hold the new state; refused: they are no state, and the caller puts back what was
abbrev pub After : Image → Step → Outcome → Rows → Type 0
After img (done t) o r = (o ≡ Ok tt) × Holds img t r
After img (refused n) o r = o ≡ Err n

abbrev pub Steps : Image → (State → Step) → Rows → Outcome → Rows → Type 0
Steps img f before o after = (s : State) → Holds img s before → After img (f s) o after

-- done and refused are two things
pub not_both : {P : Type 0} {n : Refusal} → ◌≡◌ {A = Outcome} (Ok tt) (Err n) → P
not_both e = cc

-- one step, and where it was done another
module _ (img : Image) (f g : State → Step) (a b c : Rows) (o p : Outcome) where
  pub steps_then : Steps img f a o b → o ≡ Ok tt → Steps img g b p c → Steps img (λ s. f s >>= g) a p c
  steps_then h e k s w = go (f s) (h s w)
    where
      go : (r : Step) → After img r o b → After img (r >>= g) p c
      go (done t) x = k t x.1
      go (refused n) x = not_both (sym e ∙ x)

  pub steps_end : {n : Refusal} → Steps img f a o b → o ≡ Err n → p ≡ Err n → Steps img (λ s. f s >>= g) a p c
  steps_end h e i s w = go (f s) (h s w)
    where
      go : (r : Step) → After img r o b → After img (r >>= g) p c
      go (done t) x = not_both (sym x.0 ∙ e)
      go (refused n) x = i ∙ (sym e ∙ x)

-- and where it was done the rows hold a state again
pub steps_held : (img : Image) (f : State → Step) (a b : Rows) (o : Outcome) → Held img a → Steps img f a o b → o ≡ Ok tt → Held img b
steps_held img f a b o h k e = go (f h.state) (k h.state h.holds)
  where
    go : (r : Step) → After img r o b → Held img b
    go (done t) x = record { state = t; holds = x.1 }
    go (refused n) x = not_both (sym e ∙ x)

module _ (img : Image) (f : State → Step) (a : Rows) where
  -- nothing happens
  pub steps_done : ((s : State) → Holds img s a → f s ≡ done s) → Steps img f a (Ok tt) a
  steps_done h s k = rw (h s k) (refl, k)

  pub steps_refused : {x : Refusal} (b : Rows) → ((s : State) → Holds img s a → f s ≡ refused x) → Steps img f a (Err x) b
  steps_refused b h s k = rw (h s k) refl

  -- another comes to the same
  pub steps_same : (o : Outcome) (b : Rows) (g : State → Step) → ((s : State) → Holds img s a → f s ≡ g s) → Steps img g a o b → Steps img f a o b
  steps_same o b g h k s w = rw (h s w) (k s w)

-- ---- what a call of the machine does to rows

abbrev pub reply_of : Outcome → Reply
reply_of (Ok _) = M.ok
reply_of (Err n) = M.refusal n

-- the machine's answer, and they hold its state
pub record Answers (img : Image) (o : M.Outcome) (reply : Reply) (r : Rows) : Type 0 where
  pub reply_is : reply ≡ o.reply
  pub holds : Holds img o.state r

abbrev pub Performs : Image → Call → Rows → Reply → Rows → Type 0
Performs img c before reply after = (s : State) → Holds img s before → Answers img (perform img s c) reply after
