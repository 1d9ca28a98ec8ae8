-- The manager after some calls, each handed the manager that the one before gave: the plain machine's run. Assumes nothing.
use mathlib.Core.Bool.{Bool, true, false, ◌&&◌}
use mathlib.Core.Path.{◌≡◌, refl, ap, ◌∙◌, sym}
use mathlib.Core.List.{List, [], ◌∷◌}
use Prim.Native.Nat.{ℕ}
use native.Mathlib.Omega.{arith}
use lib.Dec.{ltb, eqb}
use borrow.Author.Tests.{le-leb}
use Rattle.lists.specs.Every.{no_way, both}
use Rattle.lists.specs.Walk.{done, refused, ◌>>=◌}
use Rattle.refusals.specs.declared.Refusal.{Refusal}
use Rattle.refusals.specs.declared.Refusal.TheVariants as R
use Rattle.table_rows.specs.Rows.{mode_reactor}
use Rattle.tags.specs.Tags.{at, within}
use Rattle.table_rows.specs.Bytes.{Image}
use Rattle.table_rows.specs.Limits.{limits}
use Rattle.table.specs.Check.{is_table}
use Rattle.store.specs.Store as S
use Rattle.store_rules.proofs.Kept.{Kept, rules_kept}
use Rattle.machine.specs.Table.{scopes, reactors, modes, actions}
use Rattle.machine.specs.State.{State, active_at, ever_at, with_store, fresh}
use Rattle.machine.specs.Heads as H
use Rattle.machine.specs.Heads.{Head, peek}
use Rattle.machine.specs.Transition.{Step, transition}
use Rattle.machine.specs.Machine as M
use Rattle.machine.specs.Machine.{Call, Reply, Outcome, settle_with, pop_at, found_reply, need, for_store, push_root, push_action, perform, rules, step, run}
use Rattle.machine_rules_kept.specs.Kept.{rules_tell, rules_pass, step_performs, step_keeps, fresh_rules}
use Rattle.machine_rules_kept.specs.Steps.{Ruled}
use Rattle.state_rules.specs.Sound.{sound}
use Rattle.call_perform.proofs.CallLaws.{asked_back}
use Rattle.manager.specs.Arrays.{Arrays, asks, ended, packed, view_of, is_sound, step_on, run_on, fresh_over}
use Rattle.manager.proofs.Packs.{view_packed, table_of_sound, rules_of_sound}

-- ---- a refusal returns the state as given, and so does a question

module _ (img : Image) (s : State) where
  settled_back : (r : Reply) (t : Step) {n : Refusal} → (r ≡ M.refusal n → ⊥) → (settle_with r s t).reply ≡ M.refusal n → (settle_with r s t).state ≡ s
  settled_back r (done t) h e = absurd (h e)
  settled_back r (refused m) h e = refl

  not_ok : {n : Refusal} → M.ok ≡ M.refusal n → ⊥
  not_ok e = let z : ◌≡◌ {A = ℕ} 0 1 = cc in omega arith

  not_found : (f : S.Found) {n : Refusal} → found_reply f ≡ M.refusal n → ⊥
  not_found S.nothing e = let z : ◌≡◌ {A = ℕ} 0 1 = cc in omega arith
  not_found (S.found v) e = let z : ◌≡◌ {A = ℕ} 0 1 = cc in omega arith

  pop_back : (h : Head) {n : Refusal} → (pop_at img s h).reply ≡ M.refusal n → (pop_at img s h).state ≡ s
  pop_back H.empty e = refl
  pop_back (H.head q x t) e = absurd (let z : ◌≡◌ {A = ℕ} 0 1 = cc in omega arith)

  asks_back : (c : Call) → asks c ≡ true → (perform img s c).state ≡ s
  unfolding perform
  asks_back (M.plain t b ks) e = no_way e
  asks_back (M.network t ks) e = no_way e
  asks_back (M.control t) e = no_way e
  asks_back (M.action a t b ks) e = no_way e
  asks_back (M.transit r m k t) e = no_way e
  asks_back M.pop e = no_way e
  asks_back M.peek_tag e = refl
  asks_back M.only_control e = refl
  asks_back M.ordinary_work e = refl
  asks_back (M.active_now i) e = asked_back s (need (ltb i (scopes img)) R.Key (done (M.flag (active_at s i))))
  asks_back (M.ever_active i) e = asked_back s (need (ltb i (scopes img)) R.Key (done (M.flag (ever_at s i))))
  asks_back (M.push_value a t v) e = no_way e
  asks_back (M.next_step a o m) e = asked_back s (for_store img a (at o m) (done (found_reply (S.next_microstep s.store a o m))))
  asks_back (M.take_value a t) e = no_way e
  asks_back (M.clear_before a t) e = no_way e
  asks_back (M.move_value a t u) e = no_way e
  asks_back (M.clear_action a) e = no_way e

  refused_back : (c : Call) {n : Refusal} → asks c ≡ false → (perform img s c).reply ≡ M.refusal n → (perform img s c).state ≡ s
  unfolding perform
  refused_back (M.plain t b ks) f e = settled_back M.ok (push_root img s t ks b false false) not_ok e
  refused_back (M.network t ks) f e = settled_back M.ok (push_root img s t ks false false true) not_ok e
  refused_back (M.control t) f e = settled_back M.ok (push_root img s t [] false true false) not_ok e
  refused_back (M.action a t b ks) f e = settled_back M.ok (push_action img s a t b ks) not_ok e
  refused_back (M.transit r m k t) f e =
      settled_back M.ok
      (need (ltb r (reactors img) && ltb m (modes img)) R.Key
      (need (eqb (mode_reactor img m) r) R.TargetMode (need (within t) R.ArgumentTag (transition img r m k t s)))) not_ok e
  refused_back M.pop f e = pop_back (peek img s.scopes s.waiting) e
  refused_back M.peek_tag f e = no_way (sym f)
  refused_back M.only_control f e = no_way (sym f)
  refused_back M.ordinary_work f e = no_way (sym f)
  refused_back (M.active_now i) f e = no_way (sym f)
  refused_back (M.ever_active i) f e = no_way (sym f)
  refused_back (M.push_value a t v) f e = settled_back M.ok (for_store img a t (S.pushed (limits img).held s.store a t v >>= λ st. done (with_store s st))) not_ok e
  refused_back (M.next_step a o m) f e = no_way (sym f)
  refused_back (M.take_value a t) f e =
      let v = S.value_in a t s.store.values in
      settled_back (found_reply v) (for_store img a t (done (with_store s (S.taken s.store a t)))) (not_found v) e
  refused_back (M.clear_before a t) f e = settled_back M.ok (for_store img a t (done (with_store s (S.cleared_before s.store a t)))) not_ok e
  refused_back (M.move_value a t u) f e =
      settled_back M.ok (for_store img a t (need (within u) R.ArgumentTag (S.moved (limits img).held s.store a t u >>= λ st. done (with_store s st)))) not_ok e
  refused_back (M.clear_action a) f e = settled_back M.ok (need (ltb a (actions img)) R.Key (done (with_store s (S.cleared s.store a)))) not_ok e

-- ---- a state that is packed

packed_sound : (img : Image) (t : State) → is_table img ≡ true → Ruled img t → is_sound img (packed t) ≡ true
unfolding is_sound sound
packed_sound img t h r =
    let f : Kept (limits img).held (actions img) t.store = rules_kept (limits img).held (actions img) t.store r.sound.stored in
    both (le-leb _ (limits img).waiting r.sound.queued.room)
    (both (le-leb _ (limits img).held f.few_values) (both (le-leb _ (limits img).held f.few_buckets) (ap (rules img) (view_packed img t h r) ∙ rules_pass img t h r)))

-- ---- one call

module _ (img : Image) (a : Arrays) (c : Call) (s : is_sound img a ≡ true) where
  o : Outcome
  o = perform img (view_of img a) c

  after_ruled : Ruled img o.state
  unfolding o
  after_ruled =
      let r = rules_of_sound img a s in
      let k = step_keeps img (view_of img a) c r in
      rules_tell img (perform img (view_of img a) c).state (rw (step_performs img (view_of img a) c r) at k)

  left_view : view_of img (packed o.state) ≡ o.state
  left_view = view_packed img o.state (table_of_sound img a s) after_ruled

  ended_view : (b : Bool) → asks c ≡ b → (r : Reply) → o.reply ≡ r → view_of img (ended a b o).manager ≡ o.state
  unfolding o
  ended_view true e r q = sym (asks_back img (view_of img a) c e)
  ended_view false e (M.refusal n) q = rw q (sym (refused_back img (view_of img a) c e q))
  ended_view false e M.ok q = rw q left_view
  ended_view false e M.nothing q = rw q left_view
  ended_view false e (M.ready r) q = rw q left_view
  ended_view false e (M.tag t) q = rw q left_view
  ended_view false e (M.flag b) q = rw q left_view
  ended_view false e (M.number n) q = rw q left_view

  step_is : step_on img a c ≡ ended a (asks c) o
  unfolding step_on o
  step_is = rw s

  -- the machine's answer, and the machine's state in what is handed back
  pub step_reply : (step_on img a c).reply ≡ (step img (view_of img a) c).reply
  unfolding o
  step_reply =
      let p = step_performs img (view_of img a) c (rules_of_sound img a s) in
      ap (λ x. x.reply) step_is ∙ ap (λ (x : Outcome). x.reply) (sym p)

  pub step_view : view_of img (step_on img a c).manager ≡ (step img (view_of img a) c).state
  unfolding o
  step_view =
      let p = step_performs img (view_of img a) c (rules_of_sound img a s) in
      ap (λ x. view_of img x.manager) step_is ∙ (ended_view (asks c) refl o.reply refl ∙ ap (λ (x : Outcome). x.state) (sym p))

  -- and it keeps the rules
  ended_sound : (b : Bool) → asks c ≡ b → (r : Reply) → o.reply ≡ r → is_sound img (ended a b o).manager ≡ true
  unfolding o
  ended_sound true e r q = s
  ended_sound false e (M.refusal n) q = rw q s
  ended_sound false e M.ok q = rw q (packed_sound img o.state (table_of_sound img a s) after_ruled)
  ended_sound false e M.nothing q = rw q (packed_sound img o.state (table_of_sound img a s) after_ruled)
  ended_sound false e (M.ready r) q = rw q (packed_sound img o.state (table_of_sound img a s) after_ruled)
  ended_sound false e (M.tag t) q = rw q (packed_sound img o.state (table_of_sound img a s) after_ruled)
  ended_sound false e (M.flag b) q = rw q (packed_sound img o.state (table_of_sound img a s) after_ruled)
  ended_sound false e (M.number n) q = rw q (packed_sound img o.state (table_of_sound img a s) after_ruled)

  pub step_sound : is_sound img (step_on img a c).manager ≡ true
  step_sound = ap (λ x. is_sound img x.manager) step_is ∙ ended_sound (asks c) refl o.reply refl

-- ---- a run

pub run_view : (img : Image) (a : Arrays) (cs : List Call) → is_sound img a ≡ true → view_of img (run_on img a cs) ≡ run img (view_of img a) cs
unfolding run_on run
run_view img a [] s = refl
run_view img a (c ∷ cs) s = run_view img (step_on img a c).manager cs (step_sound img a c s) ∙ ap (λ (t : State). run img t cs) (step_view img a c s)

module _ (img : Image) (t : is_table img ≡ true) where
  fresh_ruled : Ruled img (fresh img)
  fresh_ruled = rules_tell img (fresh img) (fresh_rules img t)

  pub fresh_sound : is_sound img (fresh_over img) ≡ true
  unfolding fresh_over
  fresh_sound = rw t (packed_sound img (fresh img) t fresh_ruled)

  pub fresh_view : view_of img (fresh_over img) ≡ fresh img
  unfolding fresh_over
  fresh_view = rw t (view_packed img (fresh img) t fresh_ruled)

  -- the managers' own states are the plain machine's, call by call
  pub own_view : (cs : List Call) → view_of img (run_on img (fresh_over img) cs) ≡ run img (fresh img) cs
  own_view cs = run_view img (fresh_over img) cs fresh_sound ∙ ap (λ (s : State). run img s cs) fresh_view
