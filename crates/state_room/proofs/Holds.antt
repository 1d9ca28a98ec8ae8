-- What rows that hold a state say of it: what waits, and that they hold no other. Assumes nothing.
use Rattle.std.specs.Prelude.{true, ◌≡◌}
use Rattle.std.proofs.Common.{le_trans}
use Rattle.table_rows.specs.Bytes.{Image}
use Rattle.machine.specs.State.{State}
use Rattle.machine.specs.Machine.{rules}
use Rattle.machine_rules_kept.specs.Kept.{rules_tell}
use Rattle.state_events.specs.Slots.{waiting_fits}
use Rattle.state_room.specs.Padded.{padded}
use Rattle.state_room.specs.PartRows.{most_reactors, waiting_in, Queued, queued_is, queued_waits, Waits, Stored, Scoped}
use Rattle.state_room.specs.Holds.{Rows, Holds, state_in, store_is, scopes_are, modes_are, rules_table, rules_fit, Kept}

-- ---- the state that they hold

module _ (img : Image) (s : State) (r : Rows) (h : Holds img s r) where
  pub waiting_is : waiting_in r.events r.ledger.counts ≡ s.waiting
  waiting_is = queued_is s.waiting s.work r.events r.ledger.counts h.queued h.few

  pub waits : Waits r.events r.ledger.counts
  waits = queued_waits s.waiting s.work r.events r.ledger.counts h.queued h.few h.counted

  -- so they hold no other
  pub state_is : state_in img r ≡ s
  state_is = rw (modes_are img s r h, scopes_are img s r h, waiting_is, h.queued.work, store_is img s r h)

-- ---- a state that keeps the rules

module _ (img : Image) (s : State) (k : rules img s ≡ true) where
  pub ruled_holds : (r : Rows) → r.ledger.modes ≡ padded 0 most_reactors s.modes → Scoped s.scopes r.scopes →
      Queued s.waiting s.work r.events r.ledger.counts → Stored s.store r.values r.buckets r.ledger.held → Holds img s r
  ruled_holds r m x q t =
      let z = (rules_tell img s k).sound in
      record {
        table = rules_table img s k;
        moded = m;
        modes_long = z.moded.long;
        scoped = x;
        scopes_long = z.scoped.long;
        queued = q;
        few = le_trans z.queued.room (waiting_fits img);
        counted = z.queued.work;
        stored = t;
        fits = rules_fit img s k;
      }

pub kept_rules : {img : Image} {r : Rows} → Kept img r → (s : State) → Holds img s r → rules img s ≡ true
kept_rules {img} {r} k s h = rw (state_is img s r h) at k.keeps

pub kept_waits : {img : Image} {r : Rows} → Kept img r → Waits r.events r.ledger.counts
kept_waits {img} {r} k = waits img (state_in img r) r k.holds
