-- Each call on the rows is the machine's: its answer, and the rows hold the state after it. Assumes nothing.
use Rattle.std.specs.Prelude.{None}
use Rattle.std.specs.Prelude as code
use mathlib.Core.Bool.{Bool, true, false, cond}
use mathlib.Core.Path.{◌≡◌, refl, ◌∙◌, sym, subst}
use mathlib.Core.List.{List}
use Prim.Native.Nat.{ℕ, ◌≤◌, ◌<◌}
use native.Mathlib.Omega.{arith}
use lib.Dec.{ltb}
use lib.ListN.{get_or}
use borrow.Author.Tests.{lt-ltb, le-ltb}
use Rattle.lists.specs.Walk.{Result, done, refused}
use Rattle.refusals.specs.declared.Refusal.{Refusal}
use Rattle.refusals.specs.declared.Refusal.TheVariants as R
use Rattle.table_rows.specs.Bytes.{Image}
use Rattle.machine.specs.Table.{scopes}
use Rattle.machine.specs.State.{State, with_queue, active_at, ever_at}
use Rattle.state_events.specs.Slots.{room_for_events}
use Rattle.machine.specs.Machine as M
use Rattle.machine.specs.Machine.{Reply, perform, asked, need}
use Rattle.state_scopes.specs.Scopes as scope
use Rattle.state_scopes.specs.Scopes.{Scope, scopes_of}
use Rattle.state_room.specs.declared.Counts.{Counts}
use Rattle.state_room.specs.PartRows.{Queued, Waits, Shows, queued_is}
use Rattle.state_room.proofs.Holds as LLaws
use Rattle.state_room.specs.Holds.{Rows, Holds, Kept, state_in, Answers, Performs, shows, store_is}
use Rattle.state_room.specs.Parts.{changed, rows_in}
use Rattle.state_room.proofs.Parts.{holds_good, good_holds}
use Rattle.call_push.specs.Pushes as pushes
use Rattle.call_push.specs.Pushes.{Pushes}
use Rattle.call_push.specs.declared.Push.{Push}
use Rattle.call_push.proofs.PushLaws.{call_frame}
use Rattle.call_pop.specs.Pops.{Pops, pop_reply}
use Rattle.call_pop.specs.declared.Popped.{Popped}
use Rattle.call_pop.proofs.PopLaws.{pop_frame}
use Rattle.call_pop_ready.specs.Gathering.{Grown, none_yet}
use Rattle.call_perform.specs.Calls.{marks, question_of, Idle}
use Rattle.call_perform.specs.declared.Performed.{Performed}
use Rattle.call_perform.specs.declared.Question.{Question}
use Rattle.call_perform.specs.declared.Question.TheVariants as Q

-- ---- what the calls ask of rows that hold a state

module _ {img : Image} {d : Rows} (k : Kept img d) where
  abbrev view : State
  view = state_in img d

  -- a pop's action keys find room, and where it finds nothing, nothing is gathered
  pub pop_tells : {p : Popped} {was events actions : List ℕ} →
      ((s : State) → Queued s.waiting s.work d.events d.ledger.counts → Shows s d.scopes → Pops (perform img s M.pop) p was events actions) →
      (Grown 0 p.gathered.actions was actions × (p.gathered.actions ≤ room_for_events)) × (p.tag ≡ None → p.gathered ≡ none_yet)
  pop_tells f = let x = f view k.holds.queued (shows img view d k.holds) in ((x.grown, omega (arith, x.room)), x.idle)

  -- no more wait after a call than may
  pub few_after : (c : M.Call) {reply : Reply} (after : Rows) → Performs img c d reply after → after.ledger.counts.waiting ≤ room_for_events
  few_after c after f = (LLaws.waits img _ after (f view k.holds).holds).few

-- with no ready event the lent keys are as they were
pub idle_grown : (r : Performed) → Idle r → (keys : List ℕ) → Grown 0 r.gathered.actions keys keys × (r.gathered.actions ≤ room_for_events)
idle_grown r i keys = rw i.1 (record { more = omega arith; long = refl; behind = refl }, omega arith)

pub answers_as : {img : Image} {o : M.Outcome} {p q : Reply} {r : Rows} → Answers img o q r → p ≡ q → Answers img o p r
answers_as x e = record { reply_is = e ∙ x.reply_is; holds = x.holds }

-- ---- a question leaves the state

pub asked_back : (s : State) (r : Result Refusal Reply) → (asked s r).state ≡ s
asked_back s (done r) = refl
asked_back s (refused n) = refl

question_back : (img : Image) (s : State) (q : Question) → (perform img s (question_of q)).state ≡ s
unfolding perform
question_back img s Q.PeekTag = refl
question_back img s Q.ControlOnly = refl
question_back img s Q.OrdinaryWork = refl
question_back img s (Q.Active i) = asked_back s (need (ltb i (scopes img)) R.Key (done (M.flag (active_at s i))))
question_back img s (Q.EverActive i) = asked_back s (need (ltb i (scopes img)) R.Key (done (M.flag (ever_at s i))))

-- a scope's mark
module _ (img : Image) (i : ℕ) {n : ℕ} (en : n ≡ scopes img) where
  mark_at : (ever : Bool) (s : State) (r : Reply) → (asked s (need (ltb i (scopes img)) R.Key (done (M.flag (cond ever (ever_at s i) (active_at s i)))))).reply ≡ r →
      r ≡ (perform img s (marks ever i)).reply
  unfolding perform
  mark_at true s r e = sym e
  mark_at false s r e = sym e

  pub mark_key : (ever : Bool) (s : State) → n ≤ i → M.refusal R.Key ≡ (perform img s (marks ever i)).reply
  mark_key ever s h = let m : ltb i (scopes img) ≡ false = rw (← en) (le-ltb i n h) in mark_at ever s (M.refusal R.Key) (rw m)

  pub mark_is : (ever : Bool) (s : State) (ws : List ℕ) → i < n → (x : Scope) → x ≡ get_or (scopes_of ws) i scope.blank → Shows s ws →
      M.flag (cond ever x.ever x.active) ≡ (perform img s (marks ever i)).reply
  mark_is ever s ws h x e f =
      let m : ltb i (scopes img) ≡ true = rw (← en) (lt-ltb i n h) in
      mark_at ever s _ (rw (m, e, f i))

-- ---- the call

module _ (img : Image) (s : State) (d : Rows) (u : Holds img s d) where
  abbrev counted : List ℕ → Counts → Rows
  counted es c = changed d es d.values d.buckets c d.ledger.held

  -- where the queue alone changes
  requeued : {t : State} {events : List ℕ} {c : Counts} → t ≡ with_queue s t.waiting t.work → Queued t.waiting t.work events c → Waits events c →
      Holds img t (counted events c)
  requeued {t} {events} {c} f q w =
      let e = queued_is t.waiting t.work events c q (rw (← q.waiting) w.few) in
      let p : rows_in s events d.values d.buckets c d.ledger.held ≡ t = rw (e, q.work, store_is img s d u) (sym f) in
      subst (λ x. Holds img x (counted events c)) p
      (good_holds img s d u events d.values d.buckets c d.ledger.held (record { waits = w; keeps = (holds_good img s d u).keeps }))

  pub push_answers : (p : Push) (ks : List ℕ) {r : code.Result Counts Refusal} {events : List ℕ} {reply : Reply} →
      ((s : State) → Queued s.waiting s.work d.events d.ledger.counts → Shows s d.scopes → Pushes (perform img s (pushes.call_of p ks)) d.ledger.counts r events) →
      reply ≡ pushes.reply_of r → Answers img (perform img s (pushes.call_of p ks)) reply (counted events (pushes.left d.ledger.counts r))
  push_answers p ks f e =
      let x = f s u.queued (shows img s d u) in
      record { reply_is = e ∙ x.reply; holds = requeued (call_frame img s d.scopes (shows img s d u) p ks) x.queued x.waits }

  pub pop_answers : {p : Popped} {was events actions : List ℕ} {reply : Reply} →
      ((s : State) → Queued s.waiting s.work d.events d.ledger.counts → Shows s d.scopes → Pops (perform img s M.pop) p was events actions) →
      reply ≡ pop_reply p actions → Answers img (perform img s M.pop) reply (counted events p.counts)
  pop_answers f e =
      let x = f s u.queued (shows img s d u) in
      record { reply_is = e ∙ x.reply; holds = requeued (pop_frame img s) x.queued x.waits }

  pub ask_answers : (q : Question) {reply : Reply} →
      ((s : State) → Queued s.waiting s.work d.events d.ledger.counts → Shows s d.scopes → reply ≡ (perform img s (question_of q)).reply) →
      Answers img (perform img s (question_of q)) reply d
  ask_answers q f = record { reply_is = f s u.queued (shows img s d u); holds = subst (λ t. Holds img t d) (sym (question_back img s q)) u }
