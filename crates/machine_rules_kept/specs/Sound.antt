-- The state rules but one, "a scope is active exactly if ..": so they hold in the middle of a transition too, and each small step keeps them.
-- Assumes nothing.
use Rattle.std.specs.Prelude.{ℕ, ◌+◌, ◌<◌, ◌≤◌, Bool, ◌&&◌, ◌||◌, ◌≢◌, ◌≡◌, List, [], ◌∷◌, ◌++◌, map, leb, eqb, length, get_or, set}
use Rattle.std.proofs.Math.Bool.{true, false, cond, not}
use Rattle.std.proofs.Math.Path.{refl, ap, sym}
use Rattle.std.proofs.Common.{◌∙◌, length-set, get_or-set_same, get_or-set_other, leb-false, eq-eqb}
use native.Mathlib.Omega.{arith}
use Rattle.std.proofs.Math.Decide.{ℕ_discrete}
use Rattle.std.proofs.Math.ListN.{length-append}
use Rattle.std.proofs.lemmas.List.{length-map}
use Rattle.lists.specs.Tests.{and_left, and_right}
use Rattle.lists.specs.Lists.{lose, count, every, count_append, lose_shorter}
use Rattle.lists.specs.Walk.{done}
use Rattle.refusals.specs.declared.Refusal.TheVariants as R
use Rattle.table_rows.specs.Bytes.{Image}
use Rattle.table_rows.specs.Limits.{limits}
use Rattle.tags.specs.Tags.{Tag, Clock, within_clock}
use Rattle.store.specs.Store.{Store, store_rules}
use Rattle.machine.specs.Table.{scopes, reactors, actions}
use Rattle.machine.specs.State.{Event, Scope, State, root, ordinary, fresh_scope, stamped, in_queue, scope_at, clock_at, active_at, ever_at, clocked, marked, with_queue, with_store}
use Rattle.machine.specs.State.{with_scopes, tally, accepted, without}
use Rattle.machine.specs.Transition.{maps}
use Rattle.machine.specs.Machine.{queue_rules, event_rules, image_rules, mode_rules}
use Rattle.lists.specs.Every.{no_way, both, or_right, done_is, unless_is, every_imp, every_both, every_lose, every_set, every_last, every_map, set_self, count_map}
use Rattle.lists.proofs.Every.{count_split}

-- what the rules say of one event
unfoldable pub proper : Image → State → Event → Bool
proper img s e = event_rules img e && (queue_rules img e && image_rules s.scopes e)

-- modes: one for each reactor, and it exists
pub record Moded (img : Image) (modes : List ℕ) : Type 0 where
  pub long : length modes ≡ reactors img
  pub exist : every (mode_rules img) modes ≡ true

-- scopes: all of them, their clocks within limits; "an active scope counts as active before"
pub record Scoped (img : Image) (l : List Scope) : Type 0 where
  pub long : length l ≡ scopes img
  pub fit : every (λ x. within_clock x.clock) l ≡ true
  pub before : (i : ℕ) → (get_or l i (fresh_scope false)).active ≡ true → (get_or l i (fresh_scope false)).ever ≡ true

-- "at most 256 events wait", each of them as the rules say; "ordinary work equals the number of ordinary events waiting"
pub record Queued (img : Image) (s : State) : Type 0 where
  pub room : length s.waiting ≤ (limits img).waiting
  pub events : every (proper img s) s.waiting ≡ true
  pub work : s.work ≡ count ordinary s.waiting

pub record Sound (img : Image) (s : State) : Type 0 where
  pub moded : Moded img s.modes
  pub scoped : Scoped img s.scopes
  pub queued : Queued img s
  pub stored : store_rules (limits img).held (actions img) s.store ≡ true

-- ---- one scope in a list

-- what was active before counts so already
marked_same : (k : Clock) (a v b : Bool) → a ≡ b → (a ≡ true → v ≡ true) → marked b (record { clock = k; active = a; ever = v }) ≡ record { clock = k; active = a; ever = v }
marked_same k true true true e m = refl
marked_same k true false true e m = no_way (m refl)
marked_same k true v false e m = no_way (sym e)
marked_same k false v true e m = no_way e
marked_same k false true false e m = refl
marked_same k false false false e m = refl

module _ (img : Image) where
  -- ---- the store

  pub sound_store : (s : State) (st : Store) → Sound img s → store_rules (limits img).held (actions img) st ≡ true → Sound img (with_store s st)
  unfolding proper image_rules
  sound_store s st h k =
      record {
        moded = h.moded;
        scoped = h.scoped;
        stored = k;
        queued = record { room = h.queued.room; events = h.queued.events; work = h.queued.work };
      }

  -- ---- the waiting events

  -- other events wait, and nothing else changes
  requeued : (s : State) (w : List Event) (n : ℕ) → Sound img s → Queued img (with_queue s w n) → Sound img (with_queue s w n)
  requeued s w n h q = record { moded = h.moded; scoped = h.scoped; stored = h.stored; queued = q }

  more_work : (e : Event) (l : List Event) → tally e (count ordinary l) ≡ count ordinary (l ++ (e ∷ []))
  unfolding count
  more_work e l = put (ordinary e) ∙ sym (count_append ordinary l (e ∷ []))
    where
      put : (b : Bool) → cond b (count ordinary l + 1) (count ordinary l) ≡ count ordinary l + cond b 1 0
      put true = refl
      put false = omega arith

  queued_more : (s : State) (e : Event) → Queued img s → proper img s e ≡ true → length s.waiting < (limits img).waiting →
      Queued img (with_queue s (s.waiting ++ (e ∷ [])) (tally e s.work))
  unfolding proper image_rules
  queued_more s e q p l =
      record {
        room = rw length-append (omega arith);
        events = every_last (proper img s) s.waiting e q.events p;
        work = ap (tally e) q.work ∙ more_work e s.waiting;
      }

  pub sound_accepts : (s : State) (e : Event) (t : State) → Sound img s → proper img s e ≡ true → accepted img s e ≡ done t → Sound img t
  unfolding accepted
  sound_accepts s e t h p d =
      let x = unless_is (leb (limits img).waiting (length s.waiting)) R.Waiting d in
      rw (← (done_is x.1)) (requeued s _ _ h (queued_more s e h.queued p (leb-false (limits img).waiting (length s.waiting) x.0)))

  pub sound_without : (q : Event → Bool) (s : State) → Sound img s → Sound img (without q s)
  unfolding without proper image_rules
  sound_without q s h =
      requeued s _ _ h
      (record {
        room = omega (arith, lose_shorter q s.waiting, h.queued.room);
        events =
            every_imp (λ e. proper img s e && not (q e)) (proper img s) (λ e x. and_left (proper img s e) _ x) (lose q s.waiting) (every_lose (proper img s) q s.waiting h.queued.events);
        work = omega (arith, h.queued.work, count_split ordinary q s.waiting);
      })

  pub sound_restamped : (f : Event → Tag) (s : State) → Sound img s → ((e : Event) → event_rules img e ≡ true → event_rules img (stamped e (f e)) ≡ true) →
      Sound img (with_queue s (map (λ e. stamped e (f e)) s.waiting) s.work)
  unfolding proper queue_rules image_rules
  sound_restamped f s h k =
      requeued s _ _ h
      (record {
        room = rw (length-map s.waiting (λ e. stamped e (f e))) h.queued.room;
        events =
            every_map (λ e. stamped e (f e)) (proper img s) s.waiting
            (every_imp (proper img s) (λ e. proper img s (stamped e (f e)))
            (λ e p. both (k e (and_left (event_rules img e) _ p)) (and_right (event_rules img e) _ p)) s.waiting h.queued.events);
        work = h.queued.work ∙ sym (count_map (λ e. stamped e (f e)) ordinary ordinary (unfold ordinary in λ e. refl) s.waiting);
      })

  -- ---- one scope's turn

  -- active as before: nothing changes
  pub same_scope : (s : State) (i : ℕ) (b : Bool) → Sound img s → active_at s i ≡ b → set s.scopes i (marked b (clocked (clock_at s i) (scope_at s i))) ≡ s.scopes
  same_scope s i b h e =
      ap (set s.scopes i) (marked_same (clock_at s i) (active_at s i) (ever_at s i) b e (h.scoped.before i)) ∙ set_self s.scopes i (fresh_scope false)

  -- with the clock k from now on, by which its events map if it is active
  module _ (s : State) (i : ℕ) (k : Clock) (b : Bool) (l : i < scopes img) (h : Sound img s) where
    abbrev pub scope : Scope
    scope = marked b (clocked k (scope_at s i))

    abbrev pub there : State
    there = with_scopes s (set s.scopes i scope)

    pub own_scope : scope_at there i ≡ scope
    own_scope = get_or-set_same s.scopes i scope (fresh_scope false) (omega (arith, h.scoped.long))

    pub other_scope : (j : ℕ) → j ≢ i → scope_at there j ≡ scope_at s j
    other_scope j q = get_or-set_other s.scopes i j scope (fresh_scope false) q

    scoped_turn : within_clock k ≡ true → Scoped img there.scopes
    scoped_turn w =
        record {
          long = length-set s.scopes i scope ∙ h.scoped.long;
          fit = every_set (λ x. within_clock x.clock) s.scopes i scope w h.scoped.fit;
          before = λ j. go j (ℕ_discrete j i);
        }
      where
        go : (j : ℕ) → Dec (j ≡ i) → active_at there j ≡ true → ever_at there j ≡ true
        go j (yes q) = rw (q, own_scope, active_at, ever_at) (λ e. or_right (ever_at s i) e)
        go j (no q) = rw (other_scope j q, active_at, ever_at) (h.scoped.before j)

    image_turn : (e : Event) → image_rules s.scopes e ≡ true → (not b || maps i k e) ≡ true → image_rules there.scopes e ≡ true
    unfolding image_rules maps in_queue
    image_turn e m y = go (ℕ_discrete e.queue i)
      where
        go : Dec (e.queue ≡ i) → image_rules there.scopes e ≡ true
        go (yes q) = rw (q, own_scope, active_at, clock_at) (or_right (eqb i root) (rw (eq-eqb e.queue i q) at y))
        go (no q) = rw (other_scope e.queue q, active_at, clock_at) m

    pub sound_turn : within_clock k ≡ true → every (λ e. not b || maps i k e) s.waiting ≡ true → Sound img there
    unfolding proper
    sound_turn w y =
        record {
          moded = h.moded;
          stored = h.stored;
          scoped = scoped_turn w;
          queued =
              record {
                room = h.queued.room;
                work = h.queued.work;
                events =
                    every_imp (λ e. proper img s e && (not b || maps i k e)) (proper img there)
                    (λ e x. let p = and_left (proper img s e) _ x in let r = and_right (event_rules img e) _ p in
                    both (and_left (event_rules img e) _ p) (both (and_left (queue_rules img e) _ r) (image_turn e (and_right (queue_rules img e) _ r) (and_right (proper img s e) _ x))))
                    s.waiting (every_both (proper img s) (λ e. not b || maps i k e) s.waiting h.queued.events y);
              };
        }
