-- Laws for the returns and loops of crate call_transition_resets, and step 1 from its parts. Assumes nothing.
use mathlib.Core.Bool.{Bool, true, false, cond, ◌&&◌, ◌||◌}
use mathlib.Core.Logic.{◌⊎◌, inl, inr, ⊎_elim}
use mathlib.Core.Path.{◌≡◌, refl, ap, ◌∙◌, sym, subst}
use mathlib.Core.List.{List, [], ◌∷◌}
use Prim.Native.Nat.{ℕ, zero, suc, ◌+◌, ◌-◌, ◌≤◌, ◌<◌}
use native.Mathlib.Nat.{le_refl, sub-zero, zero-add, min-eq_left}
use native.Mathlib.Omega.{arith}
use lib.Dec.{ltb, leb, eqb}
use lib.ListN.{length, get_or, set, take, length-take}
use lib.Seq.{ext_get_or}
use borrow.Author.Tests.{lt-ltb, le-ltb, le-leb, lt-leb, eq-eqb}
use Rattle.lists.specs.Held as H
use Rattle.lists.specs.Tests.{below?, same?, apart, lt_eqb, gt_eqb, and_no, and_yes, or_no}
use Rattle.lists.specs.Lists.{keep, lose, count, foldl, from, lose_shorter}
use Rattle.lists.specs.Lay.{lay}
use Rattle.lists.specs.Rows.{tab, tab_length, tab_at, tab_set}
use Rattle.lists.specs.Every.{set_self}
use Rattle.lists.proofs.Every.{count_split}
use Rattle.table_rows.specs.Bytes.{Image}
use Rattle.table_rows.specs.Limits.{limits}
use Rattle.table_rows.specs.Rows.{action_scope, is_logical}
use Rattle.table.specs.Check.{is_table}
use Rattle.key_set.specs.Sets.{has}
use Rattle.store_words.specs.Entries.{Value, Bucket, room_for_entries, blank_value, blank_bucket}
use Rattle.store_words.specs.Words.{values_of, buckets_of, HeldValues, HeldBuckets}
use Rattle.store.specs.Store as S
use Rattle.store.specs.Store.{Store, of_action, bucket_of}
use Rattle.store_calls.specs.declared.Counts as store
use Rattle.store_calls.specs.Lent.{store_of, Lent, Laid}
use Rattle.machine.specs.Table.{scopes, actions}
use Rattle.machine.specs.State.{Event, State, ordinary, without, with_modes, with_scopes, with_store}
use Rattle.machine.specs.Transition.{dropped, reset_scopes, reset_store, reset_modes, step1}
use Rattle.state_events.specs.Slots as slot
use Rattle.state_events.specs.Slots.{events_of, room_for_events}
use Rattle.state_scopes.specs.Scopes as scope
use Rattle.state_scopes.specs.Scopes.{Scope, most_scopes, scopes_of, blank}
use Rattle.state_room.specs.declared.Counts.{Counts}
use Rattle.state_room.specs.PartRows.{Queued, Waits, waits_queued, queued_is, queued_waits, queued_laid, Fits, stored_lent, Scoped, scoped_get, scoped_put}
use Rattle.machine_rules_kept.specs.Prepared.{reset_length}
use Rattle.state_room.specs.Holds.{Rows, Holds, most_scopes_lem, scopes_are}
use Rattle.state_room.specs.Parts.{Keeps, queue_in, store_in, rows_in, laid_is, laid_holds, changed, rescoped, scopes_hold}
use Rattle.state_room.proofs.Parts.{holds_are, good_holds}
use Rattle.call_transition_resets.specs.Resetting.{dropped_in, zeroed_scope, scope_after, zeroed_scopes, clears, clears_value, clears_bucket, cleared_all, rows_reset, cleared}

-- ---- events

module _ (p : Event → Bool) (es : List ℕ) (c : Counts) (w : Waits es c) where
  abbrev here : List Event
  here = take c.waiting (events_of es)

  pub gone_fits : {k : ℕ} → k ≡ count ordinary (keep p here) → k ≤ c.work
  gone_fits e = omega (arith, e, w.counted, count_split ordinary p here)

  module _ (out : List ℕ) {m k : ℕ} (e : m ≡ length (lose p here)) (f : k ≡ count ordinary (keep p here)) (o : slot.Held out (lay slot.blank (events_of es) (lose p here) c.waiting)) where
    abbrev after : Counts
    after = record { waiting = m; work = c.work - k }

    few : length here ≤ room_for_events
    few = rw (← (waits_queued es c w).waiting) w.few

    now_queued : Queued (lose p here) (c.work - k) out after
    now_queued = record { held = queued_laid here c.work es c (lose p here) out (waits_queued es c w) few o; waiting = e; work = refl }

    fewer : length (lose p here) ≤ room_for_events
    fewer = omega (arith, lose_shorter p here, few)

    pub gone_waits : Waits out after
    gone_waits = queued_waits (lose p here) (c.work - k) out after now_queued fewer (omega (arith, f, w.counted, count_split ordinary p here))

    pub gone_step : (t : State) → without p (queue_in t es c) ≡ queue_in t out after
    unfolding without
    gone_step t = rw (queued_is (lose p here) (c.work - k) out after now_queued fewer, f)

-- ---- clocks

-- the scopes before i are done
abbrev pub partly : List ℕ → List Scope → ℕ → ℕ → Scope
partly marks ss i k = cond (ltb k i) (scope_after marks k (get_or ss k blank)) (get_or ss k blank)

abbrev pub partly_all : List ℕ → ℕ → List Scope → ℕ → List Scope
partly_all marks n ss i = tab (partly marks ss i) 0 n

module _ (marks : List ℕ) where
  module _ (ws : List ℕ) (i : ℕ) where
    pub zero_skip : scope.Whole ws → has marks i ≡ false → scope.Held ws (set (scopes_of ws) i (scope_after marks i (get_or (scopes_of ws) i blank)))
    zero_skip h e = record { whole = h; things = sym (rw e (set_self (scopes_of ws) i blank)) }

    pub zero_put : {x z : Scope} (out : List ℕ) → has marks i ≡ true → x ≡ get_or (scopes_of ws) i blank → z ≡ zeroed_scope x → scope.Held out (set (scopes_of ws) i z) →
        scope.Held out (set (scopes_of ws) i (scope_after marks i (get_or (scopes_of ws) i blank)))
    zero_put out e f g o = record { whole = o.whole; things = o.things ∙ ap (set (scopes_of ws) i) (g ∙ ap zeroed_scope f ∙ sym (rw e)) }

  module _ (n : ℕ) (ss : List Scope) (long : length ss ≡ n) (few : n ≤ most_scopes) where
    abbrev part : ℕ → ℕ → Scope
    part i k = partly marks ss i k

    abbrev sofar : ℕ → List Scope
    sofar i = partly_all marks n ss i

    sofar_none : ss ≡ sofar 0
    sofar_none =
        ext_get_or blank ss (sofar 0) (long ∙ sym (tab_length (part 0) 0 n))
        λ k h. let l : k < n = rw long at h in sym (tab_at (part 0) n k blank l ∙ rw (le-ltb k 0 (omega arith)))

    pub sofar_more : (i : ℕ) (ws out : List ℕ) → i < n → Scoped (sofar i) ws →
        scope.Held out (set (scopes_of ws) i (scope_after marks i (get_or (scopes_of ws) i blank))) → Scoped (sofar (i + 1)) out
    sofar_more i ws out h s o =
        let k : length (sofar i) ≡ n = tab_length (part i) 0 n in
        let r : get_or (scopes_of ws) i blank ≡ get_or ss i blank = scoped_get (sofar i) ws s i (rw k few) ∙ tab_at (part i) n i blank h ∙ rw (le-ltb i i (le_refl i)) in
        let q : scope.Held out (set (scopes_of ws) i (scope_after marks i (get_or ss i blank))) = rw r at o in
        let x = scoped_put (sofar i) ws s i (scope_after marks i (get_or ss i blank)) out (rw k h) q in
        rw (tab_set (part i) (part (i + 1)) n i (scope_after marks i (get_or ss i blank)) (λ l. rw (lt-ltb i (i + 1) (omega arith))) (λ j l m. other i j (below? j i) m)) x
      where
        other : (i j : ℕ) → (j < i) ⊎ (i ≤ j) → (j ≡ i → ⊥) → part (i + 1) j ≡ part i j
        other i j (inl h) m = rw (lt-ltb j i h, lt-ltb j (i + 1) (omega arith))
        other i j (inr h) m = rw (le-ltb j i h, le-ltb j (i + 1) (omega arith))

    sofar_all : (i : ℕ) → i ≤ n → n ≤ i → sofar i ≡ zeroed_scopes marks ss
    sofar_all i a b =
        let f : ℕ → Scope = λ k. scope_after marks k (get_or ss k blank) in
        rw long
        (ext_get_or blank (sofar i) (tab f 0 n) (tab_length (part i) 0 n ∙ sym (tab_length f 0 n))
        λ k h. let l : k < n = rw (tab_length (part i) 0 n) at h in tab_at (part i) n k blank l ∙ rw (lt-ltb k i (omega arith)) (sym (tab_at f n k blank l)))

    pub sofar_start : (ws : List ℕ) → Scoped ss ws → Scoped (sofar 0) ws
    sofar_start ws h = subst (λ l. Scoped l ws) sofar_none h

    pub sofar_end : (i : ℕ) (ws : List ℕ) → i ≤ n → n ≤ i → Scoped (sofar i) ws → Scoped (zeroed_scopes marks ss) ws
    sofar_end i ws a b h = subst (λ l. Scoped l ws) (sofar_all i a b) h

pub taken_long : (img : Image) (ws : List ℕ) → is_table img ≡ true → length (take (scopes img) (scopes_of ws)) ≡ scopes img
taken_long img ws t =
    let n : length (scopes_of ws) ≡ most_scopes = H.things_length scope.decode scope.encode scope.scope_words most_scopes scope.encode_long ws in
    length-take (scopes img) (scopes_of ws) ∙ rw n (min-eq_left (most_scopes_lem img t))

-- the rows of a room's scopes
pub holds_front : (img : Image) (s : State) (r : Rows) → Holds img s r → Scoped (take (scopes img) (scopes_of r.scopes)) r.scopes
holds_front img s r h = rw (scopes_are img s r h) h.scoped

-- ---- values

module _ (img : Image) (marks : List ℕ) (a : ℕ) {n : ℕ} (e : n ≡ actions img) where
  pub clears_in : {r : Bool} → a < n → r ≡ (has marks (action_scope img a) && is_logical img a) → r ≡ clears img marks a
  unfolding clears
  clears_in h q = q ∙ sym (rw (← e, lt-ltb a n h))

  pub clears_past : n ≤ a → false ≡ clears img marks a
  unfolding clears
  clears_past h = sym (rw (← e, le-ltb a n h))

module _ (img : Image) (marks : List ℕ) (vs bs : List ℕ) (h : store.Counts) (k : Keeps (limits img).held vs bs h) where
  abbrev new : Store
  new = cleared_all img marks (store_of vs bs h)

  lent : Lent (limits img).held vs bs h
  lent = stored_lent (store_of vs bs h) vs bs h k.stored k.fits

  pub values_few : h.values ≤ room_for_entries
  values_few = omega (arith, lent.few_values, lent.room)

  pub buckets_few : h.buckets ≤ room_for_entries
  buckets_few = omega (arith, lent.few_buckets, lent.room)

  fits : Fits (limits img).held new
  fits =
      record {
        values = omega (arith, k.fits.values, lose_shorter (clears_value img marks) (take h.values (values_of vs)));
        buckets = omega (arith, k.fits.buckets, lose_shorter (clears_bucket img marks) (take h.buckets (buckets_of bs)));
        room = k.fits.room;
      }

  pub all_cleared : {m n : ℕ} (vs-end bs-end : List ℕ) →
      m ≡ length new.values → HeldValues vs-end (lay blank_value (values_of vs) new.values h.values) →
      n ≡ length new.buckets → HeldBuckets bs-end (lay blank_bucket (buckets_of bs) new.buckets h.buckets) →
      Keeps (limits img).held vs-end bs-end (record { values = m; buckets = n }) × (store_of vs-end bs-end (record { values = m; buckets = n }) ≡ new)
  all_cleared {m} {n} vs-end bs-end em ev en eb =
      let laid : Laid vs bs h new vs-end bs-end (record { values = m; buckets = n }) = record { values = ev; buckets = eb; some_values = em; some_buckets = en } in
      (laid_holds vs bs h k new vs-end bs-end _ fits laid, laid_is vs bs h k new vs-end bs-end _ fits laid)

-- ---- the set as the machine's list of marks

lose_same : {A : Type 0} (p q : A → Bool) → ((e : A) → p e ≡ q e) → (l : List A) → lose p l ≡ lose q l
unfolding lose
lose_same p q h [] = refl
lose_same p q h (e ∷ l) = rw (h e, lose_same p q h l)

keep_same : (p q : Event → Bool) → ((e : Event) → p e ≡ q e) → (l : List Event) → keep p l ≡ keep q l
unfolding keep
keep_same p q h [] = refl
keep_same p q h (e ∷ l) = rw (h e, keep_same p q h l)

lose_nothing : {A : Type 0} (p : A → Bool) → ((e : A) → p e ≡ false) → (l : List A) → lose p l ≡ l
unfolding lose
lose_nothing p h [] = refl
lose_nothing p h (e ∷ l) = rw (h e) (ap (e ∷◌) (lose_nothing p h l))

keep_nothing : (p : Event → Bool) → ((e : Event) → p e ≡ false) → (l : List Event) → keep p l ≡ []
unfolding keep
keep_nothing p h [] = refl
keep_nothing p h (e ∷ l) = rw (h e) (keep_nothing p h l)

fold_nothing : (f : Store → ℕ → Store) → ((st : Store) (a : ℕ) → f st a ≡ st) → (l : List ℕ) (st : Store) → foldl f st l ≡ st
unfolding foldl
fold_nothing f h [] st = refl
fold_nothing f h (a ∷ l) st = rw (h st a) (fold_nothing f h l st)

-- ---- the actions cleared one after another come to one loss

lose_lose : {A : Type 0} (p q : A → Bool) (l : List A) → lose q (lose p l) ≡ lose (λ a. p a || q a) l
unfolding lose
lose_lose p q [] = refl
lose_lose p q (a ∷ l) = go (p a) (q a) refl (lose_lose p q l)
  where
    go : (b c : Bool) → q a ≡ c → lose q (lose p l) ≡ lose (λ a. p a || q a) l →
        lose q (cond b (lose p l) (a ∷ lose p l)) ≡ cond (b || c) (lose (λ a. p a || q a) l) (a ∷ lose (λ a. p a || q a) l)
    go true c y r = r
    go false true y r = rw y r
    go false false y r = rw y (ap (a ∷◌) r)

module _ (test : ℕ → Bool) where
  -- one of the n actions from i on, and it is cleared
  abbrev among : ℕ → ℕ → ℕ → Bool
  among i n a = leb i a && (ltb a (i + n) && test a)

  among_more : (i n a : ℕ) → ((test i && eqb a i) || among (suc i) n a) ≡ among i (suc n) a
  among_more i n a = ⊎_elim here (λ d. ⊎_elim below above (apart a i d)) (same? a i)
    where
      here : a ≡ i → ((test i && eqb a i) || among (suc i) n a) ≡ among i (suc n) a
      here e = rw (e, eq-eqb i i refl, lt-leb (suc i) i (omega arith), le-leb i i (omega arith), lt-ltb i (i + suc n) (omega arith), and_yes (test i)) (or_no (test i))

      below : a < i → ((test i && eqb a i) || among (suc i) n a) ≡ among i (suc n) a
      below h = rw (lt_eqb a i h, lt-leb (suc i) a (omega arith), lt-leb i a h, and_no (test i))

      above : i < a → ((test i && eqb a i) || among (suc i) n a) ≡ among i (suc n) a
      above h =
          let s : suc i + n ≡ i + suc n = omega arith in
          rw (gt_eqb a i h, le-leb (suc i) a (omega arith), le-leb i a (omega arith), and_no (test i), s)

  abbrev without_among : ℕ → ℕ → Store → Store
  without_among i n st = record { values = lose (λ v. among i n v.action) st.values; buckets = lose (λ b. among i n b.action) st.buckets }

  among_none : (i a : ℕ) → among i 0 a ≡ false
  among_none i a = ⊎_elim (λ (h : a < i). rw (lt-leb i a h)) (λ (h : i ≤ a). rw (le-ltb a (i + 0) (omega arith)) (and_no (leb i a))) (below? a i)

  lose_one : {A : Type 0} (f : A → ℕ) (i n : ℕ) (l : List A) (b : Bool) → test i ≡ b →
      lose (λ v. among (suc i) n (f v)) (cond b (lose (λ v. eqb (f v) i) l) l) ≡ lose (λ v. among i (suc n) (f v)) l
  lose_one f i n l true e =
      lose_lose (λ v. eqb (f v) i) (λ v. among (suc i) n (f v)) l ∙ lose_same _ _ (λ v. let h = among_more i n (f v) in rw e at h) l
  lose_one f i n l false e = lose_same _ _ (λ v. let h = among_more i n (f v) in rw e at h) l

  clear_one : (st : Store) (i n : ℕ) (b : Bool) → test i ≡ b → without_among (suc i) n (cond b (S.cleared st i) st) ≡ without_among i (suc n) st
  unfolding S.cleared of_action bucket_of
  clear_one st i n true e = rw (lose_one (λ (v : Value). v.action) i n st.values true e, lose_one (λ (b : Bucket). b.action) i n st.buckets true e)
  clear_one st i n false e = rw (lose_one (λ (v : Value). v.action) i n st.values false e, lose_one (λ (b : Bucket). b.action) i n st.buckets false e)

  clear_fold : (i n : ℕ) (st : Store) → foldl (λ st a. cond (test a) (S.cleared st a) st) st (from i n) ≡ without_among i n st
  unfolding foldl from
  clear_fold i zero st =
      rw (
        lose_nothing (λ (v : Value). among i 0 v.action) (λ v. among_none i v.action) st.values,
        lose_nothing (λ (b : Bucket). among i 0 b.action) (λ b. among_none i b.action) st.buckets,
      )
  clear_fold i (suc n) st = clear_fold (suc i) n (cond (test i) (S.cleared st i) st) ∙ clear_one st i n (test i) refl

pub reset_at : (ins : List Bool) (ss : List Scope) (k : ℕ) (d : Scope) → k < length ss →
    get_or (reset_scopes ins ss) k d ≡ cond (get_or ins k false) (zeroed_scope (get_or ss k d)) (get_or ss k d)
unfolding reset_scopes
reset_at [] ss k d h = refl
reset_at (true ∷ bs) [] k d h = absurd (omega arith)
reset_at (false ∷ bs) [] k d h = absurd (omega arith)
reset_at (true ∷ bs) (x ∷ ss) zero d h = refl
reset_at (false ∷ bs) (x ∷ ss) zero d h = refl
reset_at (true ∷ bs) (x ∷ ss) (suc k) d h = reset_at bs ss k d (omega arith)
reset_at (false ∷ bs) (x ∷ ss) (suc k) d h = reset_at bs ss k d (omega arith)

module _ (img : Image) (marks : List ℕ) (ins : List Bool) (inner : (i : ℕ) → has marks i ≡ get_or ins i false) where
  scope_after_lem : (ss : List Scope) (k : ℕ) → k < length ss → scope_after marks k (get_or ss k blank) ≡ get_or (reset_scopes ins ss) k blank
  scope_after_lem ss k h = sym (reset_at ins ss k blank h ∙ rw (← (inner k)))

  scopes_after : (ss : List Scope) → zeroed_scopes marks ss ≡ reset_scopes ins ss
  scopes_after ss =
      let f : ℕ → Scope = λ i. scope_after marks i (get_or ss i blank) in
      let n = tab_length f 0 (length ss) in
      ext_get_or blank (zeroed_scopes marks ss) (reset_scopes ins ss) (n ∙ sym (reset_length ins ss))
      λ k h. let l : k < length ss = rw n at h in tab_at f (length ss) k blank l ∙ scope_after_lem ss k l

  store_after : (st : Store) → cleared_all img marks st ≡ reset_store img ins st
  unfolding reset_store clears
  store_after st =
      let test : ℕ → Bool = λ a. get_or ins (action_scope img a) false && is_logical img a in
      let same : (a : ℕ) → clears img marks a ≡ among test 0 (actions img) a = λ a. rw (le-leb 0 a (omega arith), zero-add, inner (action_scope img a)) in
      rw (lose_same (clears_value img marks) _ (λ v. same v.action) st.values, lose_same (clears_bucket img marks) _ (λ b. same b.action) st.buckets)
      (sym (clear_fold test 0 (actions img) st))

  same_dropped : (s : State) → without (dropped ins) s ≡ dropped_in marks s
  unfolding without dropped
  same_dropped s =
      rw (
        lose_same (dropped ins) (λ e. has marks e.queue) (λ e. sym (inner e.queue)) s.waiting,
        keep_same (dropped ins) (λ e. has marks e.queue) (λ e. sym (inner e.queue))
            s.waiting,
      )

  -- events and store together
  pub rows_after : (s : State) {u : State} {st : Store} → st ≡ cleared_all img marks s.store → dropped_in marks s ≡ u → rows_reset img ins s ≡ with_store u st
  rows_after s e f = rw (same_dropped s, f, e, store_after s.store)

  module _ (none : (i : ℕ) → has marks i ≡ false) where
    not_in : (i : ℕ) → get_or ins i false ≡ false
    not_in i = sym (inner i) ∙ none i

    pub rows_same : (s : State) → rows_reset img ins s ≡ s
    unfolding without dropped reset_store count
    rows_same s =
        rw (
          lose_nothing (dropped ins) (λ e. not_in e.queue) s.waiting,
          keep_nothing (dropped ins) (λ e. not_in e.queue)
              s.waiting,
          fold_nothing (λ st a. cond (get_or ins (action_scope img a) false && is_logical img a) (S.cleared st a) st) (λ st a. rw (not_in (action_scope img a)))
              (from 0 (actions img)) s.store,
          sub-zero,
        )

    pub scopes_same : (ss : List Scope) → ss ≡ reset_scopes ins ss
    scopes_same ss = ext_get_or blank ss (reset_scopes ins ss) (sym (reset_length ins ss)) λ k h. sym (rw (none k)) ∙ scope_after_lem ss k h

    pub none_cleared : (s : State) → cleared img ins s ≡ s
    none_cleared s = ap (λ t. with_scopes t (reset_scopes ins s.scopes)) (rows_same s) ∙ ap (with_scopes s) (sym (scopes_same s.scopes))

  -- ---- on the whole room

  module _ (s : State) (r : Rows) (h : Holds img s r) (xs es vs bs : List ℕ) (c : Counts) (k : store.Counts) where
    abbrev l : List Scope
    l = reset_scopes ins s.scopes

    abbrev room : Rows
    room = changed (rescoped r xs) es vs bs c k

    zeroed_holds : Scoped (zeroed_scopes marks (take (scopes img) (scopes_of r.scopes))) xs → Holds img (with_scopes s l) (rescoped r xs)
    zeroed_holds z =
        scopes_hold img s r h l xs (reset_length ins s.scopes ∙ h.scopes_long)
        (subst (λ x. Scoped x xs) (ap (zeroed_scopes marks) (scopes_are img s r h) ∙ scopes_after s.scopes) z)

    pub holds_cleared : Scoped (zeroed_scopes marks (take (scopes img) (scopes_of r.scopes))) xs → Waits es c → Keeps (limits img).held vs bs k →
        store_of vs bs k ≡ cleared_all img marks (store_of r.values r.buckets r.ledger.held) →
        ((t : State) → dropped_in marks (queue_in t r.events r.ledger.counts) ≡ queue_in t es c) →
        Holds img (cleared img ins s) room
    holds_cleared z w y e d =
        let old = rows_in s r.events r.values r.buckets r.ledger.counts r.ledger.held in
        let q : rows_reset img ins s ≡ rows_in s es vs bs c k =
        ap (rows_reset img ins) (sym (holds_are img s r h)) ∙ rows_after old e (d (store_in s r.values r.buckets r.ledger.held)) in
        subst (λ t. Holds img (with_scopes t l) room) (sym q) (good_holds img (with_scopes s l) (rescoped r xs) (zeroed_holds z) es vs bs c k (record { waits = w; keeps = y }))

-- ---- the whole step, where the modes are as the definition has them

pub step1_is : (img : Image) (target : ℕ) (ins : List Bool) (s : State) →
    step1 img target ins s ≡ with_modes (with_scopes (rows_reset img ins s) (reset_scopes ins s.scopes)) (reset_modes img target s.modes)
unfolding step1 without
step1_is img target ins s = refl
