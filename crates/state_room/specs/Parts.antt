-- A state with those parts that some lent rows hold, as the steps of a transition change them; and such steps as steps on the whole room. Assumes nothing.
use Rattle.std.specs.Prelude.{Bool, true, false, cond, ◌||◌, ◌≡◌, List, [], ◌∷◌, ◌++◌, ℕ, ◌+◌, ◌≤◌, ◌<◌, take, set, Ok, Err}
use Rattle.std.proofs.Math.Path.{refl}
use Rattle.std.proofs.Common.{ap, ◌∙◌, sym, arith, length-append}
use Rattle.std.proofs.Math.ListN.{length}
use Rattle.std.proofs.lemmas.Bool.{lt-leb}
use Rattle.lists.specs.Lists.{count, count_append}
use Rattle.lists.specs.Changes.{or_no_left, or_no_right, room_upsert}
use Rattle.lists.specs.Every.{unless_is, done_is}
use Rattle.lists.specs.Walk.{Result, done, refused, ◌>>=◌}
use Rattle.refusals.specs.declared.Refusal.{Refusal}
use Rattle.refusals.specs.declared.Refusal.TheVariants as R
use Rattle.tags.specs.Tags.{Tag}
use Rattle.store.specs.Store.{Store, pushed, lacks, is_value, is_bucket}
use Rattle.store_calls.specs.declared.Counts as store
use Rattle.store_calls.specs.declared.Changed.{Changed}
use Rattle.store_calls.specs.Lent.{store_of, Laid, Did}
use Rattle.machine.specs.State.{Event, Scope, State, ordinary, with_queue, with_store, with_modes, with_scopes, tally, accepted}
use Rattle.table_rows.specs.Bytes.{Image}
use Rattle.table_rows.specs.Limits.{limits}
use Rattle.machine.specs.Transition.{held}
use Rattle.state_events.specs.Slots as slot
use Rattle.state_events.specs.Slots.{events_of, room_for_events, waiting_fits}
use Rattle.machine.specs.Table.{scopes, reactors}
use Rattle.state_room.specs.declared.Counts.{Counts}
use Rattle.state_room.specs.declared.Ledger.{Ledger}
use Rattle.state_room.specs.Padded.{padded}
use Rattle.state_room.specs.Holds.{Rows, Holds, Outcome}
use Rattle.state_room.specs.PartRows.{most_reactors, Scoped, Queued, Waits, waits_queued, queued_is, queued_waits, queued_more, Stored, Fits, stored_is, stored_laid}

-- what a working function asks of the rows of values and buckets that it is lent: blanks behind those that are held
pub record Keeps (limit : ℕ) (vs bs : List ℕ) (h : store.Counts) : Type 0 where
  pub stored : Stored (store_of vs bs h) vs bs h
  pub fits : Fits limit (store_of vs bs h)

-- and the events
pub record Good (limit : ℕ) (es vs bs : List ℕ) (c : Counts) (h : store.Counts) : Type 0 where
  pub waits : Waits es c
  pub keeps : Keeps limit vs bs h

-- a state with the events, or the store, or both, that the rows hold
abbrev pub queue_in : State → List ℕ → Counts → State
queue_in s es c = with_queue s (take c.waiting (events_of es)) c.work

abbrev pub store_in : State → List ℕ → List ℕ → store.Counts → State
store_in s vs bs h = with_store s (store_of vs bs h)

abbrev pub rows_in : State → List ℕ → List ℕ → List ℕ → Counts → store.Counts → State
rows_in s es vs bs c h = store_in (queue_in s es c) vs bs h

-- an outcome, with what there is where it is done
abbrev pub finished : {A : Type 0} → Outcome → A → Result Refusal A
finished (Ok _) a = done a
finished (Err r) a = refused r

-- ---- a state that the rows hold

module _ {limit : ℕ} (s : State) (es vs bs : List ℕ) (c : Counts) (h : store.Counts) where
  pub rows_are : Queued s.waiting s.work es c → length s.waiting ≤ room_for_events → Stored s.store vs bs h → Fits limit s.store → rows_in s es vs bs c h ≡ s
  rows_are q l t f =
      let a = queued_is s.waiting s.work es c q l in
      let b = stored_is s.store vs bs h t f in
      rw (a, q.work, b)

  pub rows_good : Queued s.waiting s.work es c → length s.waiting ≤ room_for_events → s.work ≡ count ordinary s.waiting → Stored s.store vs bs h → Fits limit s.store →
      Good limit es vs bs c h
  rows_good q l k t f =
      let b = stored_is s.store vs bs h t f in
      record { waits = queued_waits s.waiting s.work es c q l k; keeps = record { stored = rw b t; fits = rw b f } }

-- ---- the store

module _ {limit : ℕ} (vs bs : List ℕ) (h : store.Counts) (k : Keeps limit vs bs h) where
  -- a new store laid over it
  module _ (t : Store) (vs-end bs-end : List ℕ) (m : store.Counts) (f : Fits limit t) (l : Laid vs bs h t vs-end bs-end m) where
    abbrev now_stored : Stored t vs-end bs-end m
    now_stored = stored_laid (store_of vs bs h) vs bs h k.stored k.fits t vs-end bs-end m l

    pub laid_is : store_of vs-end bs-end m ≡ t
    laid_is = stored_is t vs-end bs-end m now_stored f

    pub laid_holds : Keeps limit vs-end bs-end m
    laid_holds = record { stored = rw laid_is now_stored; fits = rw laid_is f }

pub pushed_fits : (limit : ℕ) (st : Store) (a : ℕ) (t : Tag) (v : ℕ) (u : Store) → Fits limit st → pushed limit st a t v ≡ done u → Fits limit u
unfolding pushed lacks
pushed_fits limit st a t v u f e =
    let x = unless_is (lacks limit (is_value a t) st.values || lacks limit (is_bucket a t.offset) st.buckets) R.Held e in
    let y = done_is x.1 in
    record {
      values = rw (← (ap (λ z. z.values) y)) (room_upsert _ _ _ limit st.values f.values (or_no_left (lacks limit (is_value a t) st.values) _ x.0));
      buckets = rw (← (ap (λ z. z.buckets) y)) (room_upsert _ _ _ limit st.buckets f.buckets (or_no_right (lacks limit (is_value a t) st.values) _ x.0));
      room = f.room;
    }

-- a value pushed
module _ (img : Image) (vs bs : List ℕ) (h : store.Counts) (k : Keeps (limits img).held vs bs h) (a : ℕ) (t : Tag) (vs-end bs-end : List ℕ) (m : Changed)
    (d : Did vs bs h (pushed (limits img).held (store_of vs bs h) a t 0) vs-end bs-end m) where
  abbrev limit : ℕ
  limit = (limits img).held

  pub push_holds : Keeps limit vs-end bs-end m.held
  push_holds = go (pushed limit (store_of vs bs h) a t 0) refl d
    where
      go : (r : Result Refusal Store) → pushed limit (store_of vs bs h) a t 0 ≡ r → Did vs bs h r vs-end bs-end m → Keeps limit vs-end bs-end m.held
      go (done u) e d = laid_holds vs bs h k u vs-end bs-end m.held (pushed_fits limit _ a t 0 u k.fits e) d.laid
      go (refused x) e d = laid_holds vs bs h k (store_of vs bs h) vs-end bs-end m.held k.fits d.laid

  pub push_step : (s : State) → held img a t (store_in s vs bs h) ≡ finished m.outcome (store_in s vs-end bs-end m.held)
  unfolding held
  push_step s = go (pushed limit (store_of vs bs h) a t 0) refl d
    where
      go : (r : Result Refusal Store) → pushed limit (store_of vs bs h) a t 0 ≡ r → Did vs bs h r vs-end bs-end m →
          (r >>= λ st. done (with_store s st)) ≡ finished m.outcome (store_in s vs-end bs-end m.held)
      go (done u) e d = rw (d.outcome, laid_is vs bs h k u vs-end bs-end m.held (pushed_fits limit _ a t 0 u k.fits e) d.laid)
      go (refused x) e d = rw d.outcome

-- ---- the events

more_work : (e : Event) (l : List Event) → tally e (count ordinary l) ≡ count ordinary (l ++ (e ∷ []))
unfolding count
more_work e l = put (ordinary e) ∙ sym (count_append ordinary l (e ∷ []))
  where
    put : (b : Bool) → cond b (count ordinary l + 1) (count ordinary l) ≡ count ordinary l + cond b 1 0
    put true = refl
    put false = omega arith

-- as many wait as may
module _ (es : List ℕ) (c : Counts) (w : Waits es c) (e : Event) (es-end : List ℕ) (o : slot.Held es-end (set (events_of es) c.waiting e)) where
  module _ (img : Image) (room : c.waiting < (limits img).waiting) (m : Counts) (f : m.waiting ≡ c.waiting + 1) (g : m.work ≡ tally e c.work) where
    abbrev before : List Event
    before = take c.waiting (events_of es)

    long : length before ≡ c.waiting
    long = sym (waits_queued es c w).waiting

    grown : length (before ++ (e ∷ [])) ≡ c.waiting + 1
    grown = length-append before (e ∷ []) ∙ ap (◌+ 1) long

    now_queued : Queued (before ++ (e ∷ [])) (tally e c.work) es-end m
    now_queued =
        record { held = queued_more before c.work es c e es-end (waits_queued es c w) o; waiting = f ∙ sym grown; work = g }

    fit : length (before ++ (e ∷ [])) ≤ room_for_events
    fit = rw grown (omega (arith, waiting_fits img))

    pub more_waits : Waits es-end m
    more_waits = queued_waits (before ++ (e ∷ [])) (tally e c.work) es-end m now_queued fit (ap (tally e) w.counted ∙ more_work e before)

    pub more_step : (s : State) → accepted img (queue_in s es c) e ≡ done (queue_in s es-end m)
    unfolding accepted
    more_step s =
        let l : length before < (limits img).waiting = rw long room in
        rw (lt-leb (limits img).waiting _ l, queued_is (before ++ (e ∷ [])) (tally e c.work) es-end m now_queued fit, g)

-- ---- a step on the events and the store, as a step on the whole room

-- other counts, or other modes, in the ledger
abbrev pub recounted : Ledger → Counts → store.Counts → Ledger
recounted l c h = record { modes = l.modes; counts = c; held = h }

abbrev pub remoded : Ledger → List ℕ → Ledger
remoded l m = record { modes = m; counts = l.counts; held = l.held }

-- other events and another store, other scopes, or other modes, in the room
abbrev pub changed : Rows → List ℕ → List ℕ → List ℕ → Counts → store.Counts → Rows
changed r es vs bs c h = record { scopes = r.scopes; events = es; values = vs; buckets = bs; ledger = recounted r.ledger c h }

abbrev pub rescoped : Rows → List ℕ → Rows
rescoped r xs = record { scopes = xs; events = r.events; values = r.values; buckets = r.buckets; ledger = r.ledger }

abbrev pub with_ledger : Rows → Ledger → Rows
with_ledger r l = record { scopes = r.scopes; events = r.events; values = r.values; buckets = r.buckets; ledger = l }

module _ (img : Image) (s : State) (r : Rows) (k : Holds img s r) where
  pub scopes_hold : (ss : List Scope) (xs : List ℕ) → length ss ≡ scopes img → Scoped ss xs → Holds img (with_scopes s ss) (rescoped r xs)
  scopes_hold ss xs l h =
      record {
        table = k.table;
        moded = k.moded;
        modes_long = k.modes_long;
        scoped = h;
        scopes_long = l;
        queued = k.queued;
        few = k.few;
        counted = k.counted;
        stored = k.stored;
        fits = k.fits;
      }

  pub modes_hold : (ms m : List ℕ) → m ≡ padded 0 most_reactors ms → length ms ≡ reactors img → Holds img (with_modes s ms) (with_ledger r (remoded r.ledger m))
  modes_hold ms m e l =
      record {
        table = k.table;
        moded = e;
        modes_long = l;
        scoped = k.scoped;
        scopes_long = k.scopes_long;
        queued = k.queued;
        few = k.few;
        counted = k.counted;
        stored = k.stored;
        fits = k.fits;
      }
