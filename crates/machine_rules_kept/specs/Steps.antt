-- A transition's steps 4 and 5, and the whole: all state rules hold after it. Assumes the accepted table.
use Rattle.std.specs.Prelude.{ℕ, ◌<◌, Bool, true, false, not, ◌&&◌, ◌≡◌, leb, length}
use Rattle.std.proofs.Math.Path.{refl, ap}
use Rattle.std.proofs.Common.{◌∙◌, sym, arith}
use mathlib.Core.List.{List, [], ◌∷◌, map}
use Rattle.std.proofs.Math.Dec.{ltb, eqb}
use Rattle.std.proofs.Math.ListN.{get_or}
use borrow.Author.Tests.{lt-ltb, ltb-true}
use Rattle.lists.specs.Tests.{and_left, and_right}
use Rattle.lists.specs.Lists.{every, from}
use Rattle.lists.specs.Walk.{done, ◌>>=◌, walk, bind_done}
use Rattle.refusals.specs.declared.Refusal.TheVariants as R
use Rattle.table_rows.specs.Bytes.{Image}
use Rattle.table_rows.specs.Limits.{limits}
use Rattle.table_rows.specs.Kinds as K
use Rattle.table_rows.specs.Kinds.{count}
use Rattle.table_rows.specs.Rows.{mode_scope, startup_action, timer_action}
use Rattle.table_rows.specs.Lineage.{in_subtree}
use Rattle.table.specs.Rules.{timer_tag}
use Rattle.table.specs.Table.{Table}
use Rattle.table.proofs.TableLaws.{action_scope_lem, trigger_reaction_lem, startup_action_lem, startup_reaction_lem, reset_reaction_lem, timer_action_lem, timer_within}
use Rattle.tags.specs.Tags.{Tag, within, delayed}
use Rattle.store.specs.Store as S
use Rattle.store.specs.Store.{Store, store_rules}
use Rattle.table_schedule.specs.Schedule.{is_active, triggers_of, startups_of, resets_of}
use Rattle.machine.specs.Table.{scopes, modes, actions, has_parent}
use Rattle.machine.specs.State.{Event, State, root, clock_at, active_at, with_store, accepted, without}
use Rattle.machine.specs.Transition.{Plan, is_tag, inside_of, prepared, turned, held, plain_event, firsts, startup_rows, startups, if_some, step4, timer_scope, timer_image, timer_event, timer}
use Rattle.machine.specs.Transition.{timer_rows, reset_rows, reset_event, step5, plan_of, turns_on, transition}
use Rattle.machine.specs.Machine.{queue_rules, image_rules}
use Rattle.lists.specs.Every.{both, or_right, done_is, unless_is, every_all, keep_walk, get_or_from}
use Rattle.lists.proofs.Every.{keep_below}
use Rattle.machine_rules_kept.specs.Stored.{push_keeps}
use Rattle.machine_rules_kept.specs.Limits.{delayed_within, global_within}
use Rattle.machine_rules_kept.specs.Sound.{proper, Sound, sound_store, sound_accepts, sound_without}
use Rattle.machine_rules_kept.specs.Events.{keys_exist, rows_exist, root_proper, with_action}
use Rattle.machine_rules_kept.specs.Turns.{Walked, all_turns_lem}
use Rattle.machine_rules_kept.specs.Prepared.{sound_prepared, outside_prepared}
use Rattle.machine_rules_kept.specs.Timers.{rows_parent}

-- all state rules but that the table passes: `Sound`, and "a scope is active exactly if .. find it current"
pub record Ruled (img : Image) (s : State) : Type 0 where
  pub sound : Sound img s
  pub current : (i : ℕ) → i < scopes img → active_at s i ≡ is_active img s.modes i

module _ (img : Image) where
  -- ---- kept by the small steps

  pub ruled_store : (s : State) (st : Store) → Ruled img s → store_rules (limits img).held (actions img) st ≡ true → Ruled img (with_store s st)
  ruled_store s st h k = record { sound = sound_store img s st h.sound k; current = h.current }

  pub ruled_accepts : (s : State) (e : Event) (t : State) → Ruled img s → proper img s e ≡ true → accepted img s e ≡ done t → Ruled img t
  unfolding accepted
  ruled_accepts s e t h p d =
      record { sound = sound_accepts img s e t h.sound p d; current = rw (← (done_is (unless_is (leb (limits img).waiting (length s.waiting)) R.Waiting d).1)) h.current }

  pub ruled_without : (q : Event → Bool) (s : State) → Ruled img s → Ruled img (without q s)
  unfolding without
  ruled_without q s h = record { sound = sound_without img q s h.sound; current = h.current }

  ruled_held : (a : ℕ) (x : Tag) (s t : State) → ltb a (actions img) ≡ true → within x ≡ true → Ruled img s → held img a x s ≡ done t → Ruled img t
  unfolding held
  ruled_held a x s t k w h d =
      bind_done (S.pushed (limits img).held s.store a x 0) (λ st. done (with_store s st)) d λ st e q.
      rw (← (done_is q)) (ruled_store s st h (push_keeps (limits img).held (actions img) s.store h.sound.stored a x 0 st k w e))

  ruled_plain : (s : State) (x : Tag) (ws : List ℕ) (t : State) → within x ≡ true → keys_exist img ws ≡ true → Ruled img s → accepted img s (plain_event x ws) ≡ done t → Ruled img t
  ruled_plain s x ws t w k h d = ruled_accepts s (plain_event x ws) t h (root_proper img s x ws false false false w k) d

  module _ (tb : Table img) where
    -- ---- step 4

    startups_exist : (i : ℕ) → keys_exist img (startups_of img i) ≡ true
    unfolding startups_of
    startups_exist i = rows_exist img K.startup 4 (λ x. eqb x i) (startup_reaction_lem img tb)

    ruled_startups : (there : Tag) (first : List ℕ) (s t : State) → within there ≡ true → Ruled img s → startups img there first (startup_rows img first) s ≡ done t → Ruled img t
    unfolding startups startup_rows
    ruled_startups there first s t w h d =
        let rows = startup_rows img first in
        bind_done (walk (λ t j. held img (startup_action img j) there t) s rows) _ d λ u e r.
        keep_walk (Ruled img) (λ i. true) (λ u i. accepted img u (plain_event there (startups_of img i))) (λ s i t q k. ruled_plain s there (startups_of img i) t w (startups_exist i) k) first u t
        (every_all (λ i. true) (λ i. refl) first)
        (keep_walk (Ruled img) (λ j. ltb j (count img K.startup)) (λ t j. held img (startup_action img j) there t)
        (λ s j t q. ruled_held (startup_action img j) there s t (lt-ltb _ _ (startup_action_lem img tb j (ltb-true j (count img K.startup) q))) w) rows s u (keep_below _ (count img K.startup)) h e) r

    ruled_step4 : (c : Tag) (first : List ℕ) (s t : State) → Ruled img s → step4 img c first s ≡ done t → Ruled img t
    unfolding step4
    ruled_step4 c first s t h d = some (startup_rows img first) d
      where
        some : (rows : List ℕ) → if_some rows (done s) (delayed c >>= λ there. startups img there first (startup_rows img first) s) ≡ done t → Ruled img t
        some [] d = rw (← (done_is d)) h
        some (j ∷ js) d = bind_done (delayed c) _ d λ there e r. ruled_startups there first s t (delayed_within c there e) h r

    -- ---- step 5

    triggers_exist : (a : ℕ) → keys_exist img (triggers_of img a) ≡ true
    unfolding triggers_of
    triggers_exist a = rows_exist img K.trigger 2 (λ x. eqb x a) (trigger_reaction_lem img tb)

    resets_exist : (top : ℕ) → keys_exist img (resets_of img top) ≡ true
    unfolding resets_of
    resets_exist top = rows_exist img K.reset 2 (in_subtree img top) (reset_reaction_lem img tb)

    module _ (s : State) (j : ℕ) (l : j < count img K.timer) (g : Tag) (e : timer_image img s j ≡ done g) where
      image_within : within g ≡ true
      unfolding timer_image
      image_within = global_within (clock_at s (timer_scope img j)) (timer_tag img j) g (timer_within img tb j l) e

      timer_queue : has_parent img (timer_scope img j) ≡ true → queue_rules img (timer_event img j g) ≡ true
      unfolding queue_rules timer_event
      timer_queue b =
          let q = timer_scope img j in
          or_right (eqb q root) (both (lt-ltb q (scopes img) (action_scope_lem img tb (timer_action img j) (timer_action_lem img tb j l))) b)

      timer_image_lem : image_rules s.scopes (timer_event img j g) ≡ true
      unfolding image_rules timer_event timer_image
      timer_image_lem = let q = timer_scope img j in or_right (eqb q root) (or_right (not (active_at s q)) (ap is_tag e))

      timer_proper : has_parent img (timer_scope img j) ≡ true → proper img s (timer_event img j g) ≡ true
      unfolding proper timer_event
      timer_proper b =
          both (with_action img (timer_event img j g) (timer_within img tb j l) (triggers_exist (timer_action img j)) (lt-ltb _ _ (timer_action_lem img tb j l)) image_within)
          (both (timer_queue b) timer_image_lem)

    -- a value more changes nothing for an event
    proper_store : (s : State) (st : Store) (e : Event) → proper img s e ≡ true → proper img (with_store s st) e ≡ true
    unfolding proper image_rules
    proper_store s st e p = p

    ruled_timer : (s : State) (j : ℕ) (t : State) → (ltb j (count img K.timer) && has_parent img (timer_scope img j)) ≡ true → Ruled img s → timer img s j ≡ done t → Ruled img t
    unfolding timer held
    ruled_timer s j t q h d =
        let l = ltb-true j (count img K.timer) (and_left _ _ q) in
        bind_done (timer_image img s j) _ d λ g e r.
        bind_done (held img (timer_action img j) g s) (λ u. accepted img u (timer_event img j g)) r λ u f x.
        bind_done (S.pushed (limits img).held s.store (timer_action img j) g 0) (λ st. done (with_store s st)) f λ st y z.
        ruled_accepts u (timer_event img j g) t (ruled_held (timer_action img j) g s u (lt-ltb _ _ (timer_action_lem img tb j l)) (image_within s j l g e) h f)
        (rw (← (done_is z)) (proper_store s st (timer_event img j g) (timer_proper s j l g e (and_right (ltb j (count img K.timer)) _ q)))) x

    ruled_step5 :
        (c : Tag) (target : ℕ) (ins : List Bool) (s t : State) → every (λ j. ltb j (count img K.timer) && has_parent img (timer_scope img j)) (timer_rows img ins) ≡ true →
        Ruled img s → step5 img c target ins s ≡ done t → Ruled img t
    unfolding step5 reset_event
    ruled_step5 c target ins s t b h d =
        bind_done (walk (timer img) s (timer_rows img ins)) _ d λ u e r.
        some u (keep_walk (Ruled img) (λ j. ltb j (count img K.timer) && has_parent img (timer_scope img j)) (timer img) ruled_timer (timer_rows img ins) s u b h e) (reset_rows img ins) r
      where
        some : (u : State) → Ruled img u → (rows : List ℕ) → if_some rows (done u) (delayed c >>= λ there. accepted img u (plain_event there (resets_of img target))) ≡ done t → Ruled img t
        some u k [] d = rw (← (done_is d)) k
        some u k (j ∷ js) d = bind_done (delayed c) _ d λ there e r. ruled_plain u there (resets_of img target) t (delayed_within c there e) (resets_exist target) k r

    -- ---- the whole

    pub ruled_transition : (r m : ℕ) (reset : Bool) (c : Tag) (s t : State) → m < modes img → within c ≡ true → Ruled img s → transition img r m reset c s ≡ done t → Ruled img t
    unfolding transition turns_on plan_of
    ruled_transition r m reset c s t l w h d =
        let ins = inside_of img reset (mode_scope img m) in
        let s2 = prepared img r m reset s in
        let p = plan_of img c ins s2 in
        bind_done (walk (turned img p) s2 (from 0 (scopes img))) _ d λ u e f.
        bind_done (step4 img c (firsts img p s2) u) _ f λ v x y.
        let k =
        all_turns_lem img p w s2.modes (scopes img) 0 s2 u (omega arith)
        (record { sound = sound_prepared img tb r m l s h.sound reset; outside = outside_prepared img tb r m l s h.sound reset p refl; modes = refl; below = λ j z. absurd (omega arith) })
        e in
        ruled_step5 c (mode_scope img m) ins v t (rows_parent img tb m l reset) (ruled_step4 c (firsts img p s2) u v (after s2 u p refl k) x) y
      where
        after : (s2 u : State) (p : Plan) → p.now ≡ map (is_active img s2.modes) (from 0 (scopes img)) → Walked img p s2.modes (scopes img) u → Ruled img u
        after s2 u p n k =
            record {
              sound = k.sound;
              current = λ i l. k.below i l ∙ (ap (λ a. get_or a i false) n ∙ (get_or_from (is_active img s2.modes) (scopes img) i l ∙ ap (λ ms. is_active img ms i) (sym k.modes)));
            }
