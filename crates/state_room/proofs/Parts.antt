-- Rows that hold a state are good in each part, and the other way round. Assumes nothing.
use Rattle.std.specs.Prelude.{◌≡◌, List, ℕ, Ok, Err}
use Rattle.std.proofs.Math.Path.{refl}
use Rattle.std.proofs.Common.{ap, ◌∙◌, sym}
use Rattle.store_calls.specs.declared.Counts as store
use Rattle.machine.specs.State.{State}
use Rattle.table_rows.specs.Bytes.{Image}
use Rattle.table_rows.specs.Limits.{limits}
use Rattle.machine.specs.Transition.{Step}
use Rattle.state_room.specs.declared.Counts.{Counts}
use Rattle.state_room.specs.Holds.{Rows, Holds, Outcome, Steps, After, shows}
use Rattle.state_room.specs.PartRows.{Shows, waits_queued}
use Rattle.state_room.specs.Parts.{Good, rows_in, finished, rows_are, rows_good, changed}

-- ---- a step on the events and the store, as a step on the whole room

module _ (img : Image) (s : State) (r : Rows) (k : Holds img s r) where
  pub holds_good : Good (limits img).held r.events r.values r.buckets r.ledger.counts r.ledger.held
  holds_good = rows_good s _ _ _ _ _ k.queued k.few k.counted k.stored k.fits

  pub holds_are : rows_in s r.events r.values r.buckets r.ledger.counts r.ledger.held ≡ s
  holds_are = rows_are s _ _ _ _ _ k.queued k.few k.stored k.fits

  pub good_holds : (es vs bs : List ℕ) (c : Counts) (h : store.Counts) → Good (limits img).held es vs bs c h → Holds img (rows_in s es vs bs c h) (changed r es vs bs c h)
  good_holds es vs bs c h g =
      let q = waits_queued es c g.waits in
      record {
        table = k.table;
        moded = k.moded;
        modes_long = k.modes_long;
        scoped = k.scoped;
        scopes_long = k.scopes_long;
        queued = q;
        few = rw (← q.waiting) g.waits.few;
        counted = g.waits.counted;
        stored = g.keeps.stored;
        fits = g.keeps.fits;
      }

-- a step that is known for every state with these rows' events and store
pub steps_by : (img : Image) (f : State → Step) (r : Rows) (o : Outcome) (es vs bs : List ℕ) (c : Counts) (h : store.Counts) →
    Good (limits img).held es vs bs c h →
    ((t : State) → Shows t r.scopes → f (rows_in t r.events r.values r.buckets r.ledger.counts r.ledger.held) ≡ finished o (rows_in t es vs bs c h)) →
    Steps img f r o (changed r es vs bs c h)
steps_by img f r o es vs bs c h g e s k =
    rw (ap f (sym (holds_are img s r k)) ∙ e s (shows img s r k)) (go o)
  where
    go : (o : Outcome) → After img (finished o (rows_in s es vs bs c h)) o (changed r es vs bs c h)
    go (Ok _) = (refl, good_holds img s r k es vs bs c h g)
    go (Err n) = refl
