-- The calls of the value store on the rows are the machine's. Assumes nothing.
use mathlib.Core.Bool.{Bool, true, false, cond, ◌&&◌}
use mathlib.Core.Path.{◌≡◌, refl, ap, ◌∙◌, sym, subst}
use mathlib.Core.List.{List}
use Prim.Native.Nat.{ℕ}
use lib.Dec.{ltb}
use Rattle.lists.specs.Walk.{Result, done, refused, ◌>>=◌}
use Rattle.refusals.specs.declared.Refusal.{Refusal}
use Rattle.refusals.specs.declared.Refusal.TheVariants as R
use Rattle.table_rows.specs.Bytes.{Image}
use Rattle.table_rows.specs.Limits.{limits}
use Rattle.tags.specs.Tags.{at, within}
use Rattle.store.specs.Store as S
use Rattle.store.specs.Store.{pushed, moved, taken, cleared, cleared_before, value_in, next_microstep}
use Rattle.store_calls.specs.Lent.{store_of, Laid}
use Rattle.value_store.specs.Calls as C
use Rattle.value_store.specs.Calls.{called, said, outcome}
use Rattle.value_store.specs.Views.{answer_of, DidCall}
use Rattle.value_store.specs.declared.Called.{Called}
use Rattle.machine.specs.Table.{actions}
use Rattle.machine.specs.State.{State, with_store}
use Rattle.machine.specs.Machine as M
use Rattle.machine.specs.Machine.{Reply, Outcome, answer, settle, settle_with, asked, found_reply, perform, rules}
use Rattle.machine_rules_kept.specs.Kept.{step_performs, step_keeps}
use Rattle.state_room.specs.PartRows.{Fits}
use Rattle.state_room.specs.Holds as L
use Rattle.state_room.proofs.Holds as LLaws
use Rattle.state_room.specs.Holds.{Rows, Holds, Answers, rules_fit}
use Rattle.state_room.specs.Parts.{changed, rows_in, laid_is, laid_holds}
use Rattle.state_room.proofs.Parts.{holds_good, good_holds}
use Rattle.call_perform.specs.Calls.{value_call, value_reply}

-- ---- the machine's call by the store's

abbrev valued : State → Result Refusal C.Outcome → Outcome
valued s (done o) = answer (value_reply o.answer) (with_store s o.store)
valued s (refused n) = answer (M.refusal n) s

said_is : (f : S.Found) → found_reply f ≡ value_reply (said f)
said_is S.nothing = refl
said_is (S.found n) = refl

module _ (s : State) where
  -- 5, 6, then a call that may be refused
  may : (b w : Bool) (p : Result Refusal S.Store) →
      settle s (cond b (cond w (p >>= λ st. done (with_store s st)) (refused R.ArgumentTag)) (refused R.Key)) ≡
      valued s (cond b (cond w (p >>= λ st. done (outcome C.ok st)) (refused R.ArgumentTag)) (refused R.Key))
  may true true (done st) = refl
  may true true (refused n) = refl
  may true false p = refl
  may false w p = refl

  -- two tags
  two : (b w v : Bool) (p : Result Refusal S.Store) →
      settle s (cond b (cond w (cond v (p >>= λ st. done (with_store s st)) (refused R.ArgumentTag)) (refused R.ArgumentTag)) (refused R.Key)) ≡
      valued s (cond b (cond (w && v) (p >>= λ st. done (outcome C.ok st)) (refused R.ArgumentTag)) (refused R.Key))
  two b true v p = may b v p
  two true false v p = refl
  two false false v p = refl

  -- one that is done
  does : (b w : Bool) (r : Reply) (x : C.Answer) (st : S.Store) → r ≡ value_reply x →
      settle_with r s (cond b (cond w (done (with_store s st)) (refused R.ArgumentTag)) (refused R.Key)) ≡
      valued s (cond b (cond w (done (outcome x st)) (refused R.ArgumentTag)) (refused R.Key))
  does true true r x st e = ap (λ (r : Reply). answer r (with_store s st)) e
  does true false r x st e = refl
  does false w r x st e = refl

  asking : (b w : Bool) (f : S.Found) →
      asked s (cond b (cond w (done (found_reply f)) (refused R.ArgumentTag)) (refused R.Key)) ≡
      valued s (cond b (cond w (done (outcome (said f) s.store)) (refused R.ArgumentTag)) (refused R.Key))
  asking true true f = ap (λ (r : Reply). answer r s) (said_is f)
  asking true false f = refl
  asking false w f = refl

  clearing : (b : Bool) (st : S.Store) →
      settle s (cond b (done (with_store s st)) (refused R.Key)) ≡ valued s (cond b (done (outcome C.ok st)) (refused R.Key))
  clearing true st = refl
  clearing false st = refl

  value_performs : (img : Image) (c : C.Call) → perform img s (value_call c) ≡ valued s (called img s.store c)
  unfolding perform called C.perform
  value_performs img (C.push a t v) = may (ltb a (actions img)) (within t) (pushed (limits img).held s.store a t v)
  value_performs img (C.next a o m) = asking (ltb a (actions img)) (within (at o m)) (next_microstep s.store a o m)
  value_performs img (C.take_out a t) =
      let f = value_in a t s.store.values in
      does (ltb a (actions img)) (within t) (found_reply f) (said f) (taken s.store a t) (said_is f)
  value_performs img (C.clear_before_lem a t) = does (ltb a (actions img)) (within t) M.ok C.ok (cleared_before s.store a t) refl
  value_performs img (C.clear a) = clearing (ltb a (actions img)) (cleared s.store a)
  value_performs img (C.move a t u) = two (ltb a (actions img)) (within t) (within u) (moved (limits img).held s.store a t u)

-- ---- what is answered and left

module _ (img : Image) (s : State) (k : rules img s ≡ true) (d : Rows) (u : Holds img s d) where
  store_is : store_of d.values d.buckets d.ledger.held ≡ s.store
  store_is = L.store_is img s d u

  module _ (vs bs : List ℕ) (r : Called) where
    abbrev after : Rows
    after = changed d d.events vs bs d.ledger.counts r.held

    -- a store laid over the old one
    restored : {st : S.Store} → Fits (limits img).held st → Laid d.values d.buckets d.ledger.held st vs bs r.held → Holds img (with_store s st) after
    restored {st} f l =
        let g = holds_good img s d u in
        let p : rows_in s d.events vs bs d.ledger.counts r.held ≡ with_store s st =
        rw (LLaws.waiting_is img s d u, u.queued.work, laid_is _ _ _ g.keeps st vs bs r.held f l) in
        subst (λ x. Holds img x after) p
        (good_holds img s d u d.events vs bs d.ledger.counts r.held (record { waits = g.waits; keeps = laid_holds _ _ _ g.keeps st vs bs r.held f l }))

    answers : (z : Result Refusal C.Outcome) → rules img (valued s z).state ≡ true → DidCall d.values d.buckets d.ledger.held z vs bs r → {reply : Reply} →
        reply ≡ value_reply (answer_of r.answer) → Answers img (valued s z) reply after
    answers (done o) y x e = record { reply_is = e ∙ ap value_reply x.answer; holds = restored (rules_fit img (with_store s o.store) y) x.laid }
    answers (refused n) y x e = record { reply_is = e ∙ ap value_reply x.answer; holds = restored u.fits (rw store_is at x.laid) }

    pub value_answers : (c : C.Call) → DidCall d.values d.buckets d.ledger.held (called img (store_of d.values d.buckets d.ledger.held) c) vs bs r → {reply : Reply} →
        reply ≡ value_reply (answer_of r.answer) → Answers img (perform img s (value_call c)) reply after
    value_answers c x {reply} e =
        let p = value_performs s img c in
        let y = subst (λ o. rules img o.state ≡ true) (step_performs img s (value_call c) k ∙ p) (step_keeps img s (value_call c) k) in
        subst (λ o. Answers img o reply after) (sym p) (answers (called img s.store c) y (rw store_is at x) e)
