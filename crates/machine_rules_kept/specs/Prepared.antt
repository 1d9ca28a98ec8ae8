-- A transition's steps 1 and 2, the reset and the mode, keep the rules, and leave no event where the plan resets.
-- Assumes the accepted table.
use Prim.Native.Nat.{ℕ, zero, suc, ◌<◌}
use Rattle.std.specs.Prelude.{Bool, ◌&&◌, ◌||◌, ◌⊎◌, ◌≡◌, eqb, length, get_or, set}
use Rattle.std.proofs.Math.Bool.{true, false, cond, not}
use Rattle.std.proofs.Common.{inl, inr, ◌∙◌, sym, lt-ltb, eq-eqb}
use Rattle.std.proofs.Math.Path.{refl, ap}
use mathlib.Core.List.{List, [], ◌∷◌, map}
use Rattle.std.proofs.Math.Dec.{ltb}
use Rattle.std.proofs.Math.ListN.{length-set, length-map}
use Rattle.lists.specs.Tests.{and_left, and_right}
use Rattle.lists.specs.Lists.{lose, every, from, foldl}
use Rattle.table_rows.specs.Bytes.{Image}
use Rattle.table_rows.specs.Limits.{limits}
use Rattle.table_rows.specs.Rows.{none, initial_mode, root_scope, mode_scope, action_scope, is_logical}
use Rattle.table_rows.specs.Lineage.{in_subtree, under}
use Rattle.table.specs.Table.{Table}
use Rattle.table.proofs.TableLaws.{Initial, initial_mode_lem}
use Rattle.tags.specs.Tags.{Clock, within_clock}
use Rattle.tags.proofs.Laws.{clock_G}
use Rattle.store.specs.Store as S
use Rattle.store.specs.Store.{Store, store_rules}
use Rattle.machine.specs.Table.{scopes, reactors, modes, actions}
use Rattle.machine.specs.State.{Scope, State, fresh_scope, clock_at, active_at, clocked, without}
use Rattle.machine.specs.Transition.{Plan, inside_of, dropped, zeroed, reset_scopes, reset_store, reset_modes, step1, prepared}
use Rattle.machine.specs.Machine.{image_rules, mode_rules}
use Rattle.lists.specs.Every.{by_test, no_way, or_left, or_right, not_so, every_head, every_tail, every_more, every_all, every_imp, every_lose, every_get_or, every_set, every_map, length_from}
use Rattle.lists.specs.Every.{every_below}
use Rattle.machine_rules_kept.specs.Stored.{clear_keeps}
use Rattle.machine_rules_kept.specs.Limits.{zero_within, clock_within}
use Rattle.machine_rules_kept.specs.Sound.{proper, Moded, Scoped, Sound, sound_without}
use Rattle.machine_rules_kept.specs.Turns.{Outside}

-- ---- step 1: scopes

reset_other : (ins : List Bool) (l : List Scope) (q : ℕ) (d : Scope) → get_or ins q false ≡ false → get_or (reset_scopes ins l) q d ≡ get_or l q d
unfolding reset_scopes
reset_other [] l q d e = refl
reset_other (true ∷ bs) [] q d e = refl
reset_other (false ∷ bs) [] q d e = refl
reset_other (true ∷ bs) (x ∷ l) zero d e = no_way (sym e)
reset_other (true ∷ bs) (x ∷ l) (suc q) d e = reset_other bs l q d e
reset_other (false ∷ bs) (x ∷ l) zero d e = refl
reset_other (false ∷ bs) (x ∷ l) (suc q) d e = reset_other bs l q d e

-- what is not of the clock stays
reset_mark : (g : Scope → Bool) → ((k : Clock) (x : Scope) → g (clocked k x) ≡ g x) → (ins : List Bool) (l : List Scope) (q : ℕ) (d : Scope) → g (get_or (reset_scopes ins l) q d) ≡ g (get_or l q d)
unfolding reset_scopes
reset_mark g f [] l q d = refl
reset_mark g f (true ∷ bs) [] q d = refl
reset_mark g f (false ∷ bs) [] q d = refl
reset_mark g f (true ∷ bs) (x ∷ l) zero d = f (zeroed x.clock) x
reset_mark g f (false ∷ bs) (x ∷ l) zero d = refl
reset_mark g f (true ∷ bs) (x ∷ l) (suc q) d = reset_mark g f bs l q d
reset_mark g f (false ∷ bs) (x ∷ l) (suc q) d = reset_mark g f bs l q d

pub reset_length : (ins : List Bool) (l : List Scope) → length (reset_scopes ins l) ≡ length l
unfolding reset_scopes
reset_length [] l = refl
reset_length (true ∷ bs) [] = refl
reset_length (false ∷ bs) [] = refl
reset_length (true ∷ bs) (x ∷ l) = ap suc (reset_length bs l)
reset_length (false ∷ bs) (x ∷ l) = ap suc (reset_length bs l)

abbrev fits : Scope → Bool
fits x = within_clock x.clock

reset_fit : (ins : List Bool) (l : List Scope) → every fits l ≡ true → every fits (reset_scopes ins l) ≡ true
unfolding reset_scopes
reset_fit [] l h = h
reset_fit (true ∷ bs) [] h = h
reset_fit (false ∷ bs) [] h = h
reset_fit (true ∷ bs) (x ∷ l) h =
    let k = zeroed x.clock in
    every_more fits (clocked k x) (reset_scopes bs l) (clock_within k (clock_G x.clock (every_head fits x l h)) zero_within zero_within) (reset_fit bs l (every_tail fits x l h))
reset_fit (false ∷ bs) (x ∷ l) h = every_more fits x (reset_scopes bs l) (every_head fits x l h) (reset_fit bs l (every_tail fits x l h))

reset_scoped : (img : Image) (ins : List Bool) (l : List Scope) → Scoped img l → Scoped img (reset_scopes ins l)
reset_scoped img ins l h =
    record {
      long = reset_length ins l ∙ h.long;
      fit = reset_fit ins l h.fit;
      before = λ i. rw (reset_mark (λ x. x.active) (λ k x. refl) ins l i (fresh_scope false), reset_mark (λ x. x.ever) (λ k x. refl) ins l i (fresh_scope false)) (h.before i);
    }

none_inside : (f : ℕ → Bool) (l : List ℕ) (q : ℕ) → get_or (map (λ i. false && f i) l) q false ≡ false
none_inside f [] q = refl
none_inside f (a ∷ l) zero = refl
none_inside f (a ∷ l) (suc q) = none_inside f l q

module _ (img : Image) where
  -- ---- step 1: modes and values

  none_exists : mode_rules img none ≡ true
  unfolding mode_rules
  none_exists = refl

  pub initial_exists : Table img → (r : ℕ) → r < reactors img → mode_rules img (initial_mode img r) ≡ true
  unfolding mode_rules
  initial_exists tb r l = go (initial_mode_lem img tb r l)
    where
      go : (initial_mode img r ≡ none) ⊎ Initial img r → (eqb (initial_mode img r) none || ltb (initial_mode img r) (modes img)) ≡ true
      go (inl e) = or_left _ (eq-eqb (initial_mode img r) none e)
      go (inr e) = or_right (eqb (initial_mode img r) none) (lt-ltb (initial_mode img r) (modes img) e.exists)

  reset_moded : Table img → (target : ℕ) (ms : List ℕ) → Moded img ms → Moded img (reset_modes img target ms)
  unfolding reset_modes
  reset_moded tb target ms h =
      let f : ℕ → ℕ = λ r. cond (under img target (root_scope img r)) (initial_mode img r) (get_or ms r none) in
      record {
        long = length-map (from 0 (reactors img)) f ∙ length_from 0 (reactors img);
        exist =
            every_map f (mode_rules img) (from 0 (reactors img))
            (every_below (λ r. mode_rules img (f r)) (reactors img)
            (λ r l. by_test (under img target (root_scope img r)) (λ e. rw e (initial_exists tb r l)) (λ e. rw e (every_get_or (mode_rules img) ms r none none_exists h.exist))));
      }

  set_moded : (r m : ℕ) (ms : List ℕ) → m < modes img → Moded img ms → Moded img (set ms r m)
  unfolding mode_rules
  set_moded r m ms l h = record { long = length-set ms r m ∙ h.long; exist = every_set (mode_rules img) ms r m (or_right (eqb m none) (lt-ltb m (modes img) l)) h.exist }

  reset_stored : (ins : List Bool) (l : List ℕ) (st : Store) → store_rules (limits img).held (actions img) st ≡ true →
      store_rules (limits img).held (actions img) (foldl (λ st a. cond (get_or ins (action_scope img a) false && is_logical img a) (S.cleared st a) st) st l) ≡ true
  unfolding foldl
  reset_stored ins [] st h = h
  reset_stored ins (a ∷ l) st h =
      reset_stored ins l _ (by_test (get_or ins (action_scope img a) false && is_logical img a) (λ e. rw e (clear_keeps (limits img).held (actions img) st h a)) (λ e. rw e h))

  -- ---- steps 1 and 2

  module _ (tb : Table img) (r m : ℕ) (l : m < modes img) (s : State) (h : Sound img s) where
    pub sound_prepared : (reset : Bool) → Sound img (prepared img r m reset s)
    unfolding prepared step1 without proper image_rules reset_store dropped
    sound_prepared true =
        let ins = inside_of img true (mode_scope img m) in
        let w = sound_without img (dropped ins) s h in
        record {
          moded = set_moded r m (reset_modes img (mode_scope img m) s.modes) l (reset_moded tb (mode_scope img m) s.modes h.moded);
          scoped = reset_scoped img ins s.scopes h.scoped;
          stored = reset_stored ins (from 0 (actions img)) s.store h.stored;
          queued =
              record {
                room = w.queued.room;
                work = w.queued.work;
                events =
                    every_imp (λ e. proper img s e && not (dropped ins e)) (proper img (prepared img r m true s))
                    (λ e x. rw (reset_other ins s.scopes e.queue (fresh_scope false) (not_so (dropped ins e) (and_right (proper img s e) _ x)), active_at, clock_at) (and_left (proper img s e) _ x))
                    (lose (dropped ins) s.waiting) (every_lose (proper img s) (dropped ins) s.waiting h.queued.events);
              };
        }
    sound_prepared false =
        record {
          moded = set_moded r m s.modes l h.moded;
          scoped = h.scoped;
          stored = h.stored;
          queued = record { room = h.queued.room; events = h.queued.events; work = h.queued.work };
        }

    pub outside_prepared : (reset : Bool) (p : Plan) → p.inside ≡ inside_of img reset (mode_scope img m) → Outside p (prepared img r m reset s)
    unfolding prepared step1 without dropped
    outside_prepared true p e =
        let ins = inside_of img true (mode_scope img m) in
        rw e (every_imp (λ x. proper img s x && not (dropped ins x)) (λ x. not (dropped ins x)) (λ x y. and_right (proper img s x) _ y)
        (lose (dropped ins) s.waiting) (every_lose (proper img s) (dropped ins) s.waiting h.queued.events))
    outside_prepared false p e = rw e (every_all _ (λ x. ap not (none_inside (in_subtree img (mode_scope img m)) (from 0 (scopes img)) x.queue)) s.waiting)
