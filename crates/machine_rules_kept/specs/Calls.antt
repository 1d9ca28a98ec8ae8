-- Every call keeps the state rules. Assumes the accepted table.
use Prim.Native.Nat.{ℕ, zero, suc}
use Rattle.std.specs.Prelude.{Bool, cond, not, ◌&&◌, ◌||◌, ◌≡◌, eqb, length}
use Rattle.std.proofs.Math.Bool.{true, false}
use Rattle.std.proofs.Math.Path.{refl}
use Rattle.std.proofs.Common.{ap, ◌∙◌}
use mathlib.Core.List.{List, []}
use Rattle.std.proofs.Math.Dec.{ltb}
use borrow.Author.Tests.{lt-ltb, ltb-true, not-false}
use Rattle.lists.specs.Tests.{and_left, and_right}
use Rattle.lists.specs.Walk.{Result, done, refused, ◌>>=◌, bind_done}
use Rattle.refusals.specs.declared.Refusal.{Refusal}
use Rattle.refusals.specs.declared.Refusal.TheVariants as R
use Rattle.table_rows.specs.Bytes.{Image}
use Rattle.table_rows.specs.Limits.{limits}
use Rattle.table_rows.specs.Rows.{mode_reactor, action_scope, is_logical}
use Rattle.table.specs.Table.{Table}
use Rattle.table.proofs.TableLaws.{action_scope_lem}
use Rattle.tags.specs.Tags.{Tag, at, within, same_tag, to_local, image_of}
use Rattle.store.specs.Store as S
use Rattle.store.specs.Store.{Store, store_rules}
use Rattle.table_schedule.specs.Schedule.{is_modal}
use Rattle.machine.specs.Table.{scopes, reactors, modes, actions, has_parent, set_of}
use Rattle.machine.specs.State.{Event, Scope, State, root, root_event, at_head, accepted, without, scope_at, clock_at, active_at, ever_at, with_queue, with_store}
use Rattle.machine.specs.Heads as H
use Rattle.machine.specs.Heads.{Head, Taking, untaken, taken, take_at_of, take_scopes, taking, scope_head, root_head, is_at, peek}
use Rattle.machine.specs.Transition.{Step, is_tag}
use Rattle.machine.specs.Machine.{Call, plain, network, control, action, transit, pop, peek_tag, only_control, ordinary_work, active_now, ever_active, push_value, next_step, take_value, clear_before}
use Rattle.machine.specs.Machine.{move_value, clear_action, Reply, flag, settle_with, asked, need, for_store, keys_ok, root_made, push_root, to_root, local_tag, action_event, action_placed, action_made}
use Rattle.machine.specs.Machine.{push_action, pop_at, found_reply, queue_rules, event_rules, image_rules, perform}
use Rattle.lists.specs.Every.{by_test, both, or_right, not_both, done_is, need_is, either_is}
use Rattle.machine_rules_kept.specs.Stored.{push_keeps, take_keeps, clear_keeps, clear_before_keeps, move_keeps}
use Rattle.machine_rules_kept.specs.Limits.{local_within}
use Rattle.machine_rules_kept.specs.Sound.{proper}
use Rattle.machine_rules_kept.specs.Events.{set_exist, root_proper, with_action}
use Rattle.machine_rules_kept.specs.Steps.{Ruled, ruled_store, ruled_accepts, ruled_without, ruled_transition}

-- ---- a pop only takes events out

module _ (img : Image) where
  -- the state while a pop takes
  abbrev still : State → Taking → State
  still s k = with_queue s k.waiting k.work

  take_ruled : (s : State) (t : Tag) (k : Taking) (h : Head) → Ruled img (still s k) → Ruled img (still s (take_at_of t k h))
  take_ruled s t k H.empty r = r
  take_ruled s t k (H.head q x g) r = unfold without taken in by_test (same_tag g t) (λ e. rw e (ruled_without img (at_head q x) (still s k) r)) (λ e. rw e r)

  scopes_ruled : (s : State) (n : ℕ) (ss : List Scope) (t : Tag) (k : Taking) → Ruled img (still s k) → Ruled img (still s (take_scopes n img ss t k))
  unfolding take_scopes
  scopes_ruled s zero ss t k r = r
  scopes_ruled s (suc n) ss t k r =
      let h = scope_head img ss k.waiting in
      go (is_at t h) (scopes_ruled s n ss t (take_at_of t k h) (take_ruled s t k h r))
    where
      go : (b : Bool) → let next = take_scopes n img ss t (take_at_of t k (scope_head img ss k.waiting)) in Ruled img (still s next) → Ruled img (still s (cond b next k))
      go true x = x
      go false x = r

  pop_ruled : (s : State) (h : Head) → Ruled img s → Ruled img (pop_at img s h).state
  unfolding taking
  pop_ruled s H.empty r = r
  pop_ruled s (H.head q x t) r =
      let k = untaken s.waiting s.work in
      scopes_ruled s (length s.waiting) s.scopes t _ (take_ruled s t k (root_head s.waiting) r)

module _ (img : Image) (tb : Table img) (s : State) (h : Ruled img s) where
  -- "A refusal returns its number and the state as given."
  settled : (q : Reply) (r : Step) → ((t : State) → r ≡ done t → Ruled img t) → Ruled img (settle_with q s r).state
  settled q (done t) k = k t refl
  settled q (refused n) k = h

  only_asked : (r : Result Refusal Reply) → Ruled img (asked s r).state
  only_asked (done q) = h
  only_asked (refused n) = h

  -- ---- pushes

  push_ruled : (t : Tag) (ks : List ℕ) (a b c : Bool) (u : State) → push_root img s t ks a b c ≡ done u → Ruled img u
  unfolding push_root root_made
  push_ruled t ks a b c u d =
      bind_done (root_made (keys_ok img ks) t (set_of ks) a b c) (accepted img s) d λ e m q.
      let x = need_is (keys_ok img ks) R.Key m in
      let y = need_is (within t) R.ArgumentTag x.1 in
      ruled_accepts img s (root_event t (set_of ks) a b c) u h (root_proper img s t (set_of ks) a b c y.0 (set_exist img ks x.0)) (ap (accepted img s) (done_is y.1) ∙ q)

  module _ (a : ℕ) (t : Tag) (b : Bool) (ks : List ℕ) (l : ltb a (actions img) ≡ true) (k : keys_ok img ks ≡ true) (w : within t ≡ true) where
    action_rules : (q : ℕ) (x : Tag) → within x ≡ true → event_rules img (action_event q a x t b (set_of ks)) ≡ true
    action_rules q x v = with_action img (action_event q a x t b (set_of ks)) v (set_exist img ks k) l w

    root_action : proper img s (action_event root a t t b (set_of ks)) ≡ true
    unfolding proper queue_rules image_rules
    root_action = both (action_rules root t w) refl

    scope_action : (x : Tag) → to_root img a ≡ false → local_tag (scope_at s (action_scope img a)) t ≡ done x → proper img s (action_event (action_scope img a) a x t b (set_of ks)) ≡ true
    unfolding proper queue_rules image_rules local_tag to_root
    scope_action x e y =
        let q = action_scope img a in
        let p : has_parent img q ≡ true = not-false (has_parent img q) (not_both (not (is_logical img a)) _ (not_both (not (is_modal img)) _ e).1).1 in
        bind_done (to_local (clock_at s q) t) _ y λ z m n.
        let o = need_is (not (active_at s q) || is_tag (image_of (clock_at s q) z)) R.MappedTag n in
        both (action_rules q x (rw (done_is o.1) at (local_within (clock_at s q) t z w m)))
        (both (or_right (eqb q root) (both (lt-ltb q (scopes img) (action_scope_lem img tb a (ltb-true a (actions img) l))) p))
        (or_right (eqb q root) (rw (done_is o.1) at o.0)))

    action_ruled : (e : Event) (u : State) → action_placed img (scope_at s (action_scope img a)) a t b (set_of ks) ≡ done e → accepted img s e ≡ done u → Ruled img u
    unfolding action_placed
    action_ruled v u d q =
        either_is (to_root img a) d (λ e r. ruled_accepts img s (action_event root a t t b (set_of ks)) u h root_action (ap (accepted img s) (done_is r) ∙ q)) λ e r.
        bind_done (local_tag (scope_at s (action_scope img a)) t) _ r λ x y z. ruled_accepts img s (action_event (action_scope img a) a x t b (set_of ks)) u h (scope_action x e y)
        (ap (accepted img s) (done_is z) ∙ q)

  -- ---- the store: an action and a tag

  store_ruled : (a : ℕ) (t : Tag) (r : Result Refusal Store) (u : State) →
      (ltb a (actions img) ≡ true → within t ≡ true → (st : Store) → r ≡ done st → store_rules (limits img).held (actions img) st ≡ true) →
      for_store img a t (r >>= λ st. done (with_store s st)) ≡ done u → Ruled img u
  store_ruled a t r u k d =
      let x = need_is (ltb a (actions img)) R.Key d in
      let y = need_is (within t) R.ArgumentTag x.1 in
      bind_done r (λ st. done (with_store s st)) y.1 λ st e q. rw (← (done_is q)) (ruled_store img s st h (k x.0 y.0 st e))

  -- ---- every call

  pub perform_ruled : (c : Call) → Ruled img (perform img s c).state
  unfolding perform push_action action_made
  perform_ruled (plain t b ks) = settled _ _ (push_ruled t ks b false false)
  perform_ruled (network t ks) = settled _ _ (push_ruled t ks false false true)
  perform_ruled (control t) = settled _ _ (push_ruled t [] false true false)
  perform_ruled (action a t b ks) =
      settled _ _ λ u d.
      bind_done (action_made img (scope_at s (action_scope img a)) a t b (keys_ok img ks) (set_of ks)) (accepted img s) d λ e m q.
      let x = need_is (ltb a (actions img) && keys_ok img ks) R.Key m in
      let y = need_is (within t) R.ArgumentTag x.1 in
      action_ruled a t b ks (and_left (ltb a (actions img)) _ x.0) (and_right (ltb a (actions img)) _ x.0) y.0 e u y.1 q
  perform_ruled (transit r m reset c) =
      settled _ _ λ u d.
      let x = need_is (ltb r (reactors img) && ltb m (modes img)) R.Key d in
      let y = need_is (within c) R.ArgumentTag (need_is (eqb (mode_reactor img m) r) R.TargetMode x.1).1 in
      ruled_transition img tb r m reset c s u (ltb-true m (modes img) (and_right (ltb r (reactors img)) _ x.0)) y.0 h y.1
  perform_ruled pop = pop_ruled img s (peek img s.scopes s.waiting) h
  perform_ruled peek_tag = h
  perform_ruled only_control = h
  perform_ruled ordinary_work = h
  perform_ruled (active_now i) = only_asked (need (ltb i (scopes img)) R.Key (done (flag (active_at s i))))
  perform_ruled (ever_active i) = only_asked (need (ltb i (scopes img)) R.Key (done (flag (ever_at s i))))
  perform_ruled (push_value a t v) =
      settled _ _ λ u. store_ruled a t (S.pushed (limits img).held s.store a t v) u (λ l w st. push_keeps (limits img).held (actions img) s.store h.sound.stored a t v st l w)
  perform_ruled (next_step a o n) = only_asked (for_store img a (at o n) (done (found_reply (S.next_microstep s.store a o n))))
  perform_ruled (take_value a t) =
      settled _ _ λ u. store_ruled a t (done (S.taken s.store a t)) u (λ l w st e. rw (← (done_is e)) (take_keeps (limits img).held (actions img) s.store h.sound.stored a t))
  perform_ruled (clear_before a t) =
      settled _ _ λ u. store_ruled a t (done (S.cleared_before s.store a t)) u (λ l w st e. rw (← (done_is e)) (clear_before_keeps (limits img).held (actions img) s.store h.sound.stored a t))
  perform_ruled (move_value a t v) =
      settled _ _ λ u d.
      let x = need_is (ltb a (actions img)) R.Key d in
      let y = need_is (within v) R.ArgumentTag (need_is (within t) R.ArgumentTag x.1).1 in
      bind_done (S.moved (limits img).held s.store a t v) (λ st. done (with_store s st)) y.1 λ st e q.
      rw (← (done_is q)) (ruled_store img s st h (move_keeps (limits img).held (actions img) s.store h.sound.stored a t v st x.0 y.0 e))
  perform_ruled (clear_action a) =
      settled _ (need (ltb a (actions img)) R.Key (done (with_store s (S.cleared s.store a)))) λ u d.
      rw (← (done_is (need_is (ltb a (actions img)) R.Key d).1)) (ruled_store img s (S.cleared s.store a) h (clear_keeps (limits img).held (actions img) s.store h.sound.stored a))
