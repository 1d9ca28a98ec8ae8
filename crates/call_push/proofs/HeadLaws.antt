-- Every queue's least tag over a push: one event more waits, or none. Assumes nothing.
use Rattle.std.specs.Prelude as code
use mathlib.Core.Bool.{Bool, true, false, cond}
use mathlib.Core.Path.{◌≡◌, ap, ◌∙◌, sym}
use mathlib.Core.List.{List, [], ◌∷◌, ◌++◌}
use Prim.Native.Nat.{ℕ, ◌+◌, ◌≤◌}
use native.Mathlib.Omega.{arith}
use lib.Dec.{leb}
use lib.ListN.{length, take, length-append}
use lib.Seq.{take_all, take-append_seam, take-take}
use Rattle.lists.specs.Walk.{Result, done, refused}
use Rattle.refusals.specs.declared.Refusal.{Refusal}
use Rattle.refusals.specs.declared.Refusal.TheVariants as R
use Rattle.table_rows.specs.Bytes.{Image}
use Rattle.table_rows.specs.Limits.{limits}
use Rattle.machine.specs.State.{Event, State, tally, with_queue, accepted, no_state}
use Rattle.machine.specs.Machine.{settle}
use Rattle.state_events.specs.Slots.{events_of, room_for_events}
use Rattle.state_queues.specs.Queue.{Held, heads_of}
use Rattle.state_room.specs.declared.Counts.{Counts}
use Rattle.state_room.specs.PartRows.{Queued, Waits, queued_is, waits_queued}
use Rattle.call_push.specs.Pushes.{Pushes, pushed, left}

-- these events, with one more behind them or none
record Grown (es new : List Event) : Type 0 where
  pub front : take (length es) new ≡ es
  pub least : length es ≤ length new
  pub most : length new ≤ length es + 1

module _ (es : List Event) where
  grown_none : Grown es es
  grown_none = record { front = take_all (length es) es (omega arith); least = omega arith; most = omega arith }

  grown_one : (e : Event) → Grown es (es ++ (e ∷ []))
  grown_one e =
      let l : length (es ++ (e ∷ [])) ≡ length es + 1 = length-append es (e ∷ []) in
      record { front = take-append_seam es (e ∷ []); least = omega (arith, l); most = omega (arith, l) }

pushed_grows : (img : Image) (s : State) (m : Result Refusal Event) → Grown s.waiting (pushed img s m).state.waiting
unfolding accepted
pushed_grows img s (refused n) = grown_none s.waiting
pushed_grows img s (done e) = go (leb (limits img).waiting (length s.waiting))
  where
    go : (b : Bool) → Grown s.waiting (settle s (cond b (refused R.Waiting) (done (with_queue s (s.waiting ++ (e ∷ [])) (tally e s.work))))).state.waiting
    go true = grown_none s.waiting
    go false = grown_one s.waiting e

-- what a push leaves of the rows
module _ (img : Image) (events : List ℕ) (c : Counts) (m : Result Refusal Event) (r : code.Result Counts Refusal) (end : List ℕ) (w : Waits events c)
    (p : (s : State) → Queued s.waiting s.work events c → Pushes (pushed img s m) c r end) where
  abbrev es : List Event
  es = take c.waiting (events_of events)

  -- a state with these events
  abbrev s : State
  s = with_queue no_state es c.work

  abbrev new : List Event
  new = (pushed img s m).state.waiting

  pushes : Pushes (pushed img s m) c r end
  pushes = p s (waits_queued events c w)

  grown : Grown es new
  grown = pushed_grows img s m

  before : c.waiting ≡ length es
  before = (waits_queued events c w).waiting

  after : (left c r).waiting ≡ length new
  after = pushes.queued.waiting

  pub push_more : (c.waiting ≤ (left c r).waiting) × ((left c r).waiting ≤ c.waiting + 1) × ((left c r).waiting ≤ room_for_events)
  push_more = (omega (arith, before, after, grown.least), omega (arith, before, after, grown.most), pushes.waits.few)

  -- the events that waited before stand where they stood
  same_front : take c.waiting (events_of end) ≡ es
  same_front =
      sym (take-take c.waiting (left c r).waiting (events_of end) push_more.0) ∙
      (ap (take c.waiting) (queued_is new _ end (left c r) pushes.queued (rw (← after) pushes.waits.few)) ∙ (ap (λ n. take n new) before ∙ grown.front))

  pub heads_still : {hs : List ℕ} → Held hs (heads_of es) → Held hs (heads_of (take c.waiting (events_of end)))
  heads_still h = rw same_front h
