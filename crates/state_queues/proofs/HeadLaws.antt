-- The least tag of every queue in one array: its words, and one event more. Assumes nothing.
use mathlib.Core.Bool.{Bool, true, false}
use mathlib.Core.Path.{◌≡◌, refl, sym, ap, ◌∙◌}
use mathlib.Core.Logic.{⊎_elim}
use mathlib.Core.List.{List, [], ◌∷◌}
use Prim.Native.Nat.{ℕ, ◌+◌, ◌-◌, ◌*◌, ◌%◌, ◌<◌, ◌≤◌}
use native.Mathlib.Omega.{arith}
use lib.ListN.{length, get_or, set, take, drop, replicate}
use lib.Seq.{set-get_or}
use lib.Dec.{ltb}
use borrow.Author.Tests.{eq-eqb, ne_eqb, lt-ltb, ltb-true, not-true, not-false}
use Rattle.lists.specs.Rows.{tab, tab_at, tab_set, tab_all}
use Rattle.lists.specs.Lists.{drop_take_end, drop_pred}
use Rattle.lists.specs.Tests.{same?, yes_no}
use Rattle.lists.specs.Held as H
use Rattle.tags.specs.Tags.{Tag, at, earlier}
use Rattle.tags.specs.Views.{of_queue}
use Rattle.machine.specs.State.{Event, root, in_queue}
use Rattle.machine.specs.Heads.{Least, no_tag, least, lesser, least_of}
use Rattle.state_scopes.specs.Scopes.{most_scopes}
use Rattle.state_events.specs.Slots.{blank, IsDue}
use Rattle.state_events.specs.declared.Due.{Due}
use Rattle.state_queues.specs.Queue.{queues, lowers, entry_of, queue_of, least_words, encode, decode, encode_long, leasts_of, Whole, Held, heads_of}

-- ---- the words of an entry

module _ (ws : List ℕ) (k : ℕ) where
  pub read_past : queues ≤ k → no_tag ≡ get_or (leasts_of ws) k no_tag
  read_past h = sym (H.thing_past decode encode least_words queues encode_long ws k no_tag h)

  row : List ℕ
  row = tab (λ j. get_or ws (k * least_words + j) 0) 0 least_words

  pub read_there :
      k < queues → get_or ws (k * least_words) 0 ≡ 1 →
      least (at (get_or ws (k * least_words + 1) 0) (get_or ws (k * least_words + 2) 0 % 4294967296)) ≡ get_or (leasts_of ws) k no_tag
  unfolding decode tab row
  read_there h e =
      let z : k * least_words + 0 ≡ k * least_words = omega arith in
      sym (H.thing_get decode encode least_words queues encode_long ws k no_tag h ∙ rw z (simp (eq-eqb _ _ e)))

  pub read_nothing : k < queues → (get_or ws (k * least_words) 0 ≡ 1 → ⊥) → no_tag ≡ get_or (leasts_of ws) k no_tag
  unfolding decode tab row
  read_nothing h e =
      let z : k * least_words + 0 ≡ k * least_words = omega arith in
      sym (H.thing_get decode encode least_words queues encode_long ws k no_tag h ∙ rw z (simp (ne_eqb _ _ e)))

  module _ (h : Whole ws) where
    pub put_past : (l : Least) → queues ≤ k → Held ws (set (leasts_of ws) k l)
    put_past l b = H.held_past decode encode least_words queues encode_long ws k l h b

    -- what is put is read again
    pub put_there :
        (l : Least) {x y z : ℕ} → decode (encode l) ≡ l → k < queues → x ∷ y ∷ z ∷ [] ≡ encode l →
        Held (set (set (set ws (k * least_words) x) (k * least_words + 1) y) (k * least_words + 2) z) (set (leasts_of ws) k l)
    put_there l {x} {y} {z} d b e =
        let n : k * least_words + 0 ≡ k * least_words = omega arith in
        H.held_stores decode encode least_words queues encode_long ws k l (x ∷ y ∷ z ∷ []) h d b e (rw n)

pub blank_heads : Held (replicate (queues * least_words) 0) (replicate queues no_tag)
unfolding decode encode
blank_heads =
    record {
      whole = H.whole_zero decode encode least_words queues encode_long no_tag refl refl;
      things = H.zero_things decode encode least_words queues encode_long no_tag refl refl (queues * least_words);
    }

-- ---- the lesser of two

module _ (t : Tag) where
  lesser_yes : (l : Least) → lowers t l ≡ true → lesser t l ≡ least t
  lesser_yes no_tag y = refl
  lesser_yes (least u) y = simp (not-true (earlier u t) y)

  lesser_no : (l : Least) → lowers t l ≡ false → lesser t l ≡ l
  lesser_no no_tag y = absurd (yes_no refl y)
  lesser_no (least u) y = simp (not-false (earlier u t) y)

-- the entry of one event more, by what stood there
module _ (ws : List ℕ) (q : ℕ) (t : Tag) {k : ℕ} (o : k ≡ entry_of q) {e : Least} (h : e ≡ get_or (leasts_of ws) k no_tag) where
  abbrev Noted : List ℕ → Type 0
  Noted out = Held out (set (leasts_of ws) (entry_of q) (lesser t (get_or (leasts_of ws) (entry_of q) no_tag)))

  pub note_lower : {out : List ℕ} → lowers t e ≡ true → Held out (set (leasts_of ws) k (least t)) → Noted out
  note_lower y r = rw (← o, ← h, lesser_yes t e y) r

  pub note_kept : lowers t e ≡ false → Whole ws → Noted ws
  note_kept n w = record { whole = w; things = rw (← o, ← h, lesser_no t e n, h) (sym (set-get_or (leasts_of ws) k no_tag)) }

-- ---- one event more in front

-- an entry's queue and a queue's entry
pub entry_own : (q k : ℕ) → k < queues → entry_of q ≡ k → queue_of k ≡ q
entry_own q k h e = ⊎_elim (λ (r : q ≡ root). at_root r) (λ (r : q ≡ root → ⊥). at_scope r) (same? q root)
  where
    at_root : q ≡ root → queue_of k ≡ q
    at_root r =
        let m : most_scopes ≡ k = simp (eq-eqb _ _ r) at e in
        simp (eq-eqb k most_scopes (sym m)) (sym r)

    below : (q ≡ root → ⊥) → (b : Bool) → ltb q most_scopes ≡ b → queue_of k ≡ q
    below r true l =
        let m : q ≡ k = simp (ne_eqb _ _ r, l) at e in
        let z : q < most_scopes = ltb-true q most_scopes l in
        let n : k ≡ most_scopes → ⊥ = λ x. omega arith in
        simp (ne_eqb k most_scopes n) (sym m)
    below r false l =
        let m : queues ≡ k = simp (ne_eqb _ _ r, l) at e in
        absurd (omega arith)

    at_scope : (q ≡ root → ⊥) → queue_of k ≡ q
    at_scope r = below r (ltb q most_scopes) refl

pub entry_other : (q k : ℕ) → k < queues → (k ≡ entry_of q → ⊥) → q ≡ queue_of k → ⊥
entry_other q k h e r = e (sym (back k h) ∙ ap entry_of (sym r))
  where
    back : (k : ℕ) → k < queues → entry_of (queue_of k) ≡ k
    back k h = ⊎_elim (λ (m : k ≡ most_scopes). simp (eq-eqb k most_scopes m) (sym m)) (λ (m : k ≡ most_scopes → ⊥). low m) (same? k most_scopes)
      where
        low : (k ≡ most_scopes → ⊥) → entry_of (queue_of k) ≡ k
        low m =
            let l : k < most_scopes = omega arith in
            let n : k ≡ root → ⊥ = λ x. omega arith in
            simp (ne_eqb k most_scopes m, ne_eqb k root n, lt-ltb k most_scopes l)

module _ (e : Event) (es : List Event) where
  least_in : (q : ℕ) → e.queue ≡ q → least_of q (e ∷ es) ≡ lesser e.tag (least_of q es)
  unfolding least_of in_queue
  least_in q h = simp (eq-eqb _ _ h)

  least_out : (q : ℕ) → (e.queue ≡ q → ⊥) → least_of q (e ∷ es) ≡ least_of q es
  unfolding least_of in_queue
  least_out q h = simp (ne_eqb _ _ h)

  -- the heads of one event more: one entry is rewritten
  pub heads_more : set (heads_of es) (entry_of e.queue) (lesser e.tag (get_or (heads_of es) (entry_of e.queue) no_tag)) ≡ heads_of (e ∷ es)
  heads_more =
      let k = entry_of e.queue in
      sym
      (tab_set (λ j. least_of (queue_of j) es) (λ j. least_of (queue_of j) (e ∷ es)) queues k (lesser e.tag (get_or (heads_of es) k no_tag))
      (λ h. least_in (queue_of k) (sym (entry_own e.queue k h refl)) ∙ ap (lesser e.tag) (sym (tab_at (λ j. least_of (queue_of j) es) queues k no_tag h)))
      (λ j h n. least_out (queue_of j) (entry_other e.queue j h n)))

pub heads_none : heads_of [] ≡ replicate queues no_tag
unfolding least_of
heads_none = tab_all (λ k. least_of (queue_of k) []) 0 queues no_tag (λ k. refl)

-- ---- the loop over the events, from the last to the first

module _ (l : List Event) (n : ℕ) where
  pub heads_start : {ws : List ℕ} → Held ws (replicate queues no_tag) → Held ws (heads_of (drop n (take n l)))
  heads_start h = rw (drop_take_end n l, heads_none) h

  pub heads_step :
      (i : ℕ) (d : Due) {ws out : List ℕ} → 0 < i → i ≤ n → n ≤ length l → IsDue d (get_or l (i - 1) blank) → Held ws (heads_of (drop i (take n l))) →
      Held out (set (leasts_of ws) (entry_of d.queue) (lesser (of_queue d.tag) (get_or (leasts_of ws) (entry_of d.queue) no_tag))) →
      Held out (heads_of (drop (i - 1) (take n l)))
  heads_step i d z a b r h o =
      let e = get_or l (i - 1) blank in
      let es = drop i (take n l) in
      let p : drop (i - 1) (take n l) ≡ e ∷ es = drop_pred l n i blank z a b in
      rw (p, ← heads_more e es, ← h.things, ← r.queue, ← r.tag) o
