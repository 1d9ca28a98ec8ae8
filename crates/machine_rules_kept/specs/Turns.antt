-- A transition's step 3: each scope's turn keeps the rules, and after its turn a scope is active as planned. Assumes nothing.
use Prim.Native.Nat.{ℕ, zero, suc, ◌+◌, ◌<◌}
use Rattle.std.specs.Prelude.{Bool, ◌&&◌, ◌||◌, ◌≢◌, ◌≡◌, refl, List, map, eqb, set}
use Rattle.std.proofs.Math.Bool.{true, false, not}
use Rattle.std.proofs.Math.Path.{ap}
use Rattle.std.proofs.Common.{◌∙◌, sym, eqb-true}
use native.Mathlib.Omega.{arith}
use Rattle.std.proofs.Math.Decide.{ℕ_discrete}
use Rattle.lists.specs.Tests.{and_left, and_no}
use Rattle.lists.specs.Lists.{every, from}
use Rattle.lists.specs.Walk.{done, ◌>>=◌, walk, bind_done}
use Rattle.refusals.specs.declared.Refusal.TheVariants as R
use Rattle.table_rows.specs.Bytes.{Image}
use Rattle.table_rows.specs.Limits.{limits}
use Rattle.tags.specs.Tags.{Clock, within, within_clock, to_local, image_of}
use Rattle.tags.proofs.Laws.{clock_G, clock_L, clock_S}
use Rattle.store.specs.Store.{Store, store_rules}
use Rattle.machine.specs.Table.{scopes, actions}
use Rattle.machine.specs.State.{Event, State, fresh_scope, in_queue, scope_at, clock_at, active_at, clocked, marked, with_queue, with_scopes}
use Rattle.machine.specs.Transition.{Plan, is_now, is_inside, suspended, leaving, activated, restarted, staying, clock_after, is_tag, maps, stamp, restamp, movers, move_one, entering, Turning}
use Rattle.machine.specs.Transition.{turn_by, one_turn, with_turn, turned}
use Rattle.machine.specs.Machine.{event_rules}
use Rattle.lists.specs.Every.{by_test, no_way, or_left, not_so, done_is, need_is, either_is, every_all, every_imp, every_get_or, every_map, keep_walk}
use Rattle.machine_rules_kept.specs.Stored.{move_keeps}
use Rattle.machine_rules_kept.specs.Limits.{local_within, zero_within, clock_within, fresh_within}
use Rattle.machine_rules_kept.specs.Sound.{proper, Sound, sound_store, sound_restamped, same_scope, own_scope, other_scope, sound_turn}
use Rattle.machine_rules_kept.specs.Events.{stamped_rules, mover, movers_each, mover_action, mover_new}

-- no event waits where the plan resets
abbrev pub Outside : Plan → State → Type 0
Outside p s = every (λ e. not (is_inside p e.queue)) s.waiting ≡ true

-- what scope i's turn leaves of the state s, where b says whether the scope is active now
record Turned (img : Image) (p : Plan) (s : State) (i : ℕ) (b : Bool) (t : State) : Type 0 where
  sound : Sound img t
  outside : Outside p t
  modes : t.modes ≡ s.modes
  own : active_at t i ≡ b
  others : (j : ℕ) → j ≢ i → active_at t j ≡ active_at s j

module _ (img : Image) (p : Plan) (w : within p.c ≡ true) (s : State) (i : ℕ) (l : i < scopes img) (h : Sound img s) (o : Outside p s) where
  clock_fits : within_clock (clock_at s i) ≡ true
  clock_fits = every_get_or (λ x. within_clock x.clock) s.scopes i (fresh_scope false) (fresh_within false) h.scoped.fit

  abbrev after : Turning → State
  after t = with_turn s i t

  -- active or not from now on, by the clock k, with these events and this store
  abbrev standing : Bool → Clock → List Event → Store → Turning
  standing b k es st = record { scope = marked b (clocked k (scope_at s i)); waiting = es; store = st }

  own : (k : Clock) (b : Bool) → active_at (with_scopes s (set s.scopes i (marked b (clocked k (scope_at s i))))) i ≡ b
  own k b = ap (λ x. x.active) (own_scope img s i k b l h)

  others : (k : Clock) (b : Bool) (j : ℕ) → j ≢ i → active_at (with_scopes s (set s.scopes i (marked b (clocked k (scope_at s i))))) j ≡ active_at s j
  others k b j q = ap (λ x. x.active) (other_scope img s i k b l h j q)

  -- active as before, by the same clock
  stays : (b : Bool) → active_at s i ≡ b → Turned img p s i b (after (standing b (clock_at s i) s.waiting s.store))
  stays b e = rw (same_scope img s i b h e) (record { sound = h; outside = o; modes = refl; own = e; others = λ j q. refl })

  -- by another clock
  turns : (k : Clock) (b : Bool) → within_clock k ≡ true → every (λ e. not b || maps i k e) s.waiting ≡ true → Turned img p s i b (after (standing b k s.waiting s.store))
  turns k b f m = record { sound = sound_turn img s i k b l h f m; outside = o; modes = refl; own = own k b; others = others k b }

  -- its events need not map
  inactive : (k : Clock) → within_clock k ≡ true → Turned img p s i false (after (standing false k s.waiting s.store))
  inactive k f = turns k false f (every_all _ (λ e. refl) s.waiting)

  -- "Going inactive": in a reset subtree the clock stays
  leaves : (k : Clock) → leaving p.c (is_inside p i) (clock_at s i) ≡ done k → Turned img p s i false (after (standing false k s.waiting s.store))
  unfolding leaving
  leaves k d =
      either_is (is_inside p i) d (λ e r. rw (← (done_is r)) (inactive (clock_at s i) clock_fits))
      (λ e r. bind_done (to_local (clock_at s i) p.c) _ r λ x y z.
      rw (← (done_is z))
      (inactive (suspended (clock_at s i) x)
      (clock_within _ (clock_G (clock_at s i) clock_fits) (clock_L (clock_at s i) clock_fits) (local_within (clock_at s i) p.c x w y))))

  -- "Staying active in a reset subtree": no event is there
  restarts : is_inside p i ≡ true → Turned img p s i true (after (standing true (restarted p.c) s.waiting s.store))
  unfolding maps in_queue
  restarts y =
      let k = restarted p.c in
      turns k true (clock_within k w zero_within zero_within)
      (every_imp (λ e. not (is_inside p e.queue)) (maps i k)
      (λ e z. or_left (is_tag (image_of k e.tag))
      (by_test (eqb e.queue i)
      (λ q. no_way (sym (not_so (is_inside p e.queue) z) ∙ (ap (is_inside p) (eqb-true e.queue i q) ∙ y))) (λ q. ap not q)))
      s.waiting o)

  remains : (k : Clock) → staying p.c (is_inside p i) (clock_at s i) ≡ k → active_at s i ≡ true → Turned img p s i true (after (standing true k s.waiting s.store))
  unfolding staying
  remains k e a = either_is (is_inside p i) e (λ c q. rw (← q) (restarts c)) (λ c q. rw (← q) (stays true a))

  abbrev limit : ℕ
  limit = (limits img).held

  abbrev Kept : Store → Type 0
  Kept st = store_rules limit (actions img) st ≡ true

  -- "Going active": all its events map, and their values follow
  enters : (k : Clock) (st : Store) → within_clock k ≡ true → entering limit i k s.waiting s.store ≡ done st →
      Turned img p s i true (after (standing true k (map (restamp i k) s.waiting) st))
  unfolding entering maps in_queue
  enters k st f d =
      let x = need_is (every (maps i k) s.waiting) R.MappedTag d in
      record {
        sound =
            sound_store img _ st
            (sound_turn img (with_queue s (map (restamp i k) s.waiting) s.work) i k true l (sound_restamped img (stamp i k) s h (stamped_rules img i k)) f
            (every_map (restamp i k) (maps i k) s.waiting x.0))
            (keep_walk Kept (mover img) (move_one limit i k) move (movers i s.waiting) s.store st (movers_each img i s.waiting ruled) h.stored x.1);
        outside = every_map (restamp i k) (λ e. not (is_inside p e.queue)) s.waiting o;
        modes = refl;
        own = own k true;
        others = others k true;
      }
    where
      ruled : every (event_rules img) s.waiting ≡ true
      ruled = every_imp (proper img s) (event_rules img) (unfold proper in λ e y. and_left (event_rules img e) _ y) s.waiting h.queued.events

      move : (u : Store) (e : Event) (v : Store) → mover img e ≡ true → Kept u → move_one limit i k u e ≡ done v → Kept v
      move u e v m r d = unfold move_one in
          move_keeps limit (actions img) u r e.action e.stored (stamp i k e) v (mover_action img i k e m) (mover_new img i k e m) d

  activated_within : within_clock (activated p.c (clock_at s i)) ≡ true
  activated_within = clock_within _ w (clock_S (clock_at s i) clock_fits) (clock_S (clock_at s i) clock_fits)

  -- by its clock after the turn: its events are looked at only where it goes active
  clocked_turn : (k : Clock) (t : Turning) → clock_after p.c (is_now p i) (is_inside p i) (scope_at s i) ≡ done k →
      turn_by limit (is_now p i) i (scope_at s i) k s.waiting s.store ≡ done t → Turned img p s i (is_now p i) (after t)
  unfolding clock_after turn_by
  clocked_turn k t y z =
      either_is (active_at s i) y
      (λ a e. let q = still (ap (λ x. is_now p i && not x) a ∙ and_no (is_now p i)) in
      either_is (is_now p i) e (λ b r. rw (← q, b) (remains k (done_is r) a)) (λ b r. rw (← q, b) (leaves k r)))
      (λ a e. either_is (is_now p i) (done_is e)
      (λ b r. bind_done (entering limit i k s.waiting s.store) _ (goes (ap (λ x. is_now p i && not x) a ∙ rw b)) λ u x v.
      rw (← (done_is v), b) (enters k u (rw r at activated_within) x))
      (λ b r. rw (← (still (rw b)), ← r, b) (stays false a)))
    where
      still : (is_now p i && not (active_at s i)) ≡ false → standing (is_now p i) k s.waiting s.store ≡ t
      still q = either_is (is_now p i && not (active_at s i)) z (λ r e. no_way (sym q ∙ r)) (λ r e. done_is e)

      goes : (is_now p i && not (active_at s i)) ≡ true →
          (entering limit i k s.waiting s.store >>= λ u. done (standing (is_now p i) k (map (restamp i k) s.waiting) u)) ≡ done t
      goes q = either_is (is_now p i && not (active_at s i)) z (λ r e. e) (λ r e. no_way (sym r ∙ q))

  turn : (t : Turning) → one_turn limit p.c (is_now p i) (is_inside p i) i (scope_at s i) s.waiting s.store ≡ done t → Turned img p s i (is_now p i) (after t)
  unfolding one_turn
  turn t d = bind_done (clock_after p.c (is_now p i) (is_inside p i) (scope_at s i)) _ d λ k y z. clocked_turn k t y z

-- "Scopes ascending": before scope i's turn, those below it are as planned
pub record Walked (img : Image) (p : Plan) (ms : List ℕ) (i : ℕ) (s : State) : Type 0 where
  pub sound : Sound img s
  pub outside : Outside p s
  pub modes : s.modes ≡ ms
  pub below : (j : ℕ) → j < i → active_at s j ≡ is_now p j

module _ (img : Image) (p : Plan) (w : within p.c ≡ true) (ms : List ℕ) where
  one_turn_lem : (s : State) (i : ℕ) (t : State) → i < scopes img → Walked img p ms i s → turned img p s i ≡ done t → Walked img p ms (suc i) t
  unfolding turned
  one_turn_lem s i t l h d =
      bind_done (one_turn (limits img).held p.c (is_now p i) (is_inside p i) i (scope_at s i) s.waiting s.store) _ d λ u e r.
      rw (← (done_is r)) (next (with_turn s i u) (turn img p w s i l h.sound h.outside u e))
    where
      next : (u : State) → Turned img p s i (is_now p i) u → Walked img p ms (suc i) u
      next u k = record { sound = k.sound; outside = k.outside; modes = k.modes ∙ h.modes; below = λ j m. low j m (ℕ_discrete j i) }
        where
          low : (j : ℕ) → j < suc i → Dec (j ≡ i) → active_at u j ≡ is_now p j
          low j m (yes q) = rw q k.own
          low j m (no q) = k.others j q ∙ h.below j (omega arith)

  pub all_turns_lem : (n i : ℕ) (s t : State) → i + n ≡ scopes img → Walked img p ms i s → walk (turned img p) s (from i n) ≡ done t → Walked img p ms (scopes img) t
  unfolding walk from
  all_turns_lem zero i s t e h d = let z : i ≡ scopes img = omega arith in rw (← (done_is d)) (rw z at h)
  all_turns_lem (suc n) i s t e h d =
      bind_done (turned img p s i) (λ u. walk (turned img p) u (from (suc i) n)) d λ u x r. all_turns_lem n (suc i) u t (omega arith) (one_turn_lem s i u (omega arith) h x) r
