-- The least tag of a queue as events come and go: one more behind the others, and those at a head taken out. Assumes nothing.
use Rattle.std.specs.Prelude.{Option, Some, None, MatchOption, IsTrue}
use mathlib.Core.Bool.{Bool, true, false, cond, not, ◌&&◌}
use mathlib.Core.Path.{◌≡◌, refl, sym, ap, ◌∙◌}
use mathlib.Core.Logic.{◌⊎◌, inl, inr, ⊎_elim}
use mathlib.Core.List.{List, [], ◌∷◌, ◌++◌, append-nil}
use Prim.Native.Nat.{ℕ, zero, suc, ◌+◌, ◌<◌, ◌≤◌}
use native.Mathlib.Omega.{arith}
use native.Mathlib.Numerals.{add-one}
use lib.ListN.{length, get_or, set, take}
use lib.Seq.{take-suc}
use lib.Dec.{ltb}
use borrow.Author.Tests.{eq-eqb, ne_eqb, lt-ltb, le-ltb, eqb-true, ltb-true, ltb-false, not-true, not-false}
use Rattle.lists.specs.Lists.{lose, lose_append}
use Rattle.lists.specs.Rows.{tab, tab_set}
use Rattle.lists.specs.Tests.{same?, gt_eqb, gt_ltb, and_left, yes_no}
use Rattle.tags.specs.Tags.{Tag, at, earlier}
use Rattle.tags.specs.Views.{of_queue}
use Rattle.tags.specs.declared.QueueTag.{QueueTag}
use Rattle.machine.specs.State.{Event, in_queue, at_head}
use Rattle.machine.specs.Heads.{Least, no_tag, least, lesser, least_of}
use Rattle.state_events.specs.Slots.{blank, events_of, IsDue, room_for_events}
use Rattle.state_events.specs.declared.Due.{Due}
use Rattle.state_events.proofs.SlotLaws.{events_long}
use Rattle.state_queues.specs.Queue.{queues, of_earliest, lowers, is_lower, entry_of, queue_of, leasts_of, Held, heads_of}
use Rattle.state_queues.proofs.HeadLaws.{entry_own, entry_other, heads_more}

-- ---- the order of tags

abbrev Before : Tag → Tag → Type 0
Before t u = (t.offset < u.offset) ⊎ ((t.offset ≡ u.offset) × (t.microstep < u.microstep))

abbrev Behind : Tag → Tag → Type 0
Behind t u = (u.offset < t.offset) ⊎ ((t.offset ≡ u.offset) × (u.microstep ≤ t.microstep))

module _ (t u : Tag) where
  pub is_before_lem : Before t u → earlier t u ≡ true
  unfolding earlier
  is_before_lem (inl h) = simp (lt-ltb _ _ h)
  is_before_lem (inr h) = let k : u.offset ≤ t.offset = omega (arith, h.0) in simp (le-ltb _ _ k, eq-eqb _ _ h.0, lt-ltb _ _ h.1)

  compare : Before t u ⊎ Behind t u
  compare =
      ⊎_elim (λ (e : t.offset ≡ u.offset). at_once e (ltb t.microstep u.microstep) refl) (λ (n : t.offset ≡ u.offset → ⊥). apart n (ltb t.offset u.offset) refl)
      (same? t.offset u.offset)
    where
      at_once : t.offset ≡ u.offset → (b : Bool) → ltb t.microstep u.microstep ≡ b → Before t u ⊎ Behind t u
      at_once e true l = inl (inr (e, ltb-true _ _ l))
      at_once e false l = inr (inr (e, ltb-false _ _ l))

      apart : (t.offset ≡ u.offset → ⊥) → (b : Bool) → ltb t.offset u.offset ≡ b → Before t u ⊎ Behind t u
      apart n true l = inl (inl (ltb-true _ _ l))
      apart n false l = inr (inl (let k : u.offset ≤ t.offset = ltb-false _ _ l in omega arith))

  is_behind : Behind t u → earlier t u ≡ false
  unfolding earlier
  is_behind (inl h) = simp (gt_ltb _ _ h, gt_eqb _ _ h)
  is_behind (inr h) = let k : u.offset ≤ t.offset = omega (arith, h.0) in simp (le-ltb _ _ k, eq-eqb _ _ h.0, le-ltb _ _ h.1)

  pub before_is : earlier t u ≡ true → Before t u
  before_is e = ⊎_elim (λ (h : Before t u). h) (λ (h : Behind t u). absurd (yes_no e (is_behind h))) compare

  pub behind_is : earlier t u ≡ false → Behind t u
  behind_is e = ⊎_elim (λ (h : Before t u). absurd (yes_no (is_before_lem h) e)) (λ (h : Behind t u). h) compare

-- neither is earlier: they are the same
same_tag_lem : (t u : Tag) → Behind t u → Behind u t → t ≡ u
same_tag_lem t u (inl h) (inl k) = absurd (omega arith)
same_tag_lem t u (inl h) (inr k) = absurd (omega (arith, k.0))
same_tag_lem t u (inr h) (inl k) = absurd (omega (arith, h.0))
same_tag_lem t u (inr h) (inr k) =
    let m : t.microstep ≡ u.microstep = omega (arith, h.1, k.1) in
    ap (λ o. at o t.microstep) h.0 ∙ ap (at u.offset) m

pub not_both : (t u : Tag) → Before t u → Before u t → ⊥
not_both t u (inl h) (inl k) = omega arith
not_both t u (inl h) (inr k) = omega (arith, k.0)
not_both t u (inr h) (inl k) = omega (arith, h.0)
not_both t u (inr h) (inr k) = omega (arith, h.1, k.1)

pub before_behind : (v u t : Tag) → Before v u → Behind t u → Before v t
before_behind v u t (inl h) (inl k) = inl (omega arith)
before_behind v u t (inl h) (inr k) = inl (omega (arith, k.0))
before_behind v u t (inr h) (inl k) = inl (omega (arith, h.0))
before_behind v u t (inr h) (inr k) = inr (h.0 ∙ sym k.0, omega (arith, h.1, k.1))

-- ---- the lesser of two, in either order

first_of : (t u : Tag) → cond (earlier u t) u t ≡ cond (earlier t u) t u
first_of t u = go (earlier u t) (earlier t u) refl refl
  where
    go : (a b : Bool) → earlier u t ≡ a → earlier t u ≡ b → cond a u t ≡ cond b t u
    go true true p q = absurd (not_both u t (before_is u t p) (before_is t u q))
    go true false p q = refl
    go false true p q = refl
    go false false p q = same_tag_lem t u (behind_is t u q) (behind_is u t p)

first_three : (t u v : Tag) → cond (earlier (cond (earlier v u) v u) t) (cond (earlier v u) v u) t ≡ cond (earlier (cond (earlier v t) v t) u) (cond (earlier v t) v t) u
first_three t u v = go (earlier v u) (earlier v t) refl refl
  where
    -- v is before u and not before t: t is before u
    between : (t u : Tag) → earlier v u ≡ true → earlier v t ≡ false → earlier t u ≡ true
    between t u p q = ⊎_elim (λ (h : Before t u). is_before_lem t u h) (λ (h : Behind t u). absurd (yes_no (is_before_lem v t (before_behind v u t (before_is v u p) h)) q)) (compare t u)

    go : (a b : Bool) → earlier v u ≡ a → earlier v t ≡ b → cond (earlier (cond a v u) t) (cond a v u) t ≡ cond (earlier (cond b v t) u) (cond b v t) u
    go true true p q = simp (p, q)
    go true false p q = simp (q, between t u p q)
    go false true p q = simp (p, between u t q p)
    go false false p q = first_of t u

lesser_either : (t u : Tag) (l : Least) → lesser t (lesser u l) ≡ lesser u (lesser t l)
lesser_either t u no_tag = ap least (first_of t u)
lesser_either t u (least v) = ap least (first_three t u v)

-- ---- one event more, behind the others

-- what an event does to its queue's least tag
abbrev with : ℕ → Event → Least → Least
with q e l = cond (in_queue q e) (lesser e.tag l) l

with_either : (q : ℕ) (d e : Event) (l : Least) → with q d (with q e l) ≡ with q e (with q d l)
with_either q d e l = go (in_queue q d) (in_queue q e)
  where
    go : (a b : Bool) → cond a (lesser d.tag (cond b (lesser e.tag l) l)) (cond b (lesser e.tag l) l) ≡ cond b (lesser e.tag (cond a (lesser d.tag l) l)) (cond a (lesser d.tag l) l)
    go true true = lesser_either d.tag e.tag l
    go true false = refl
    go false true = refl
    go false false = refl

pub least_behind : (q : ℕ) (es : List Event) (e : Event) → least_of q (es ++ (e ∷ [])) ≡ least_of q (e ∷ es)
unfolding least_of
least_behind q [] e = refl
least_behind q (d ∷ es) e = ap (with q d) (least_behind q es e) ∙ with_either q d e (least_of q es)

-- by the test that the code makes
module _ (q : ℕ) (es : List Event) (e : Event) (l : Least) (h : l ≡ least_of q es) where
  pub lower_yes : is_lower q l e ≡ true → least e.tag ≡ least_of q (es ++ (e ∷ []))
  unfolding is_lower least_of
  lower_yes y = go (in_queue q e) l y ∙ (ap (with q e) h ∙ sym (least_behind q es e))
    where
      go : (b : Bool) (m : Least) → (b && lowers e.tag m) ≡ true → least e.tag ≡ cond b (lesser e.tag m) m
      go true no_tag p = refl
      go true (least u) p = simp (not-true (earlier u e.tag) p)
      go false m p = absurd (yes_no p refl)

  pub lower_no : is_lower q l e ≡ false → l ≡ least_of q (es ++ (e ∷ []))
  unfolding is_lower least_of
  lower_no y = go (in_queue q e) l y ∙ (ap (with q e) h ∙ sym (least_behind q es e))
    where
      go : (b : Bool) (m : Least) → (b && lowers e.tag m) ≡ false → m ≡ cond b (lesser e.tag m) m
      go true no_tag p = absurd (yes_no refl p)
      go true (least u) p = simp (not-false (earlier u e.tag) p)
      go false m p = refl

-- the test of a tag
module _ (t : QueueTag) where
  pub lowers_is : (l : Option QueueTag) {r : Bool} → MatchOption l (IsTrue r) (λ u. r ≡ not (earlier (of_queue u) (of_queue t))) → r ≡ lowers (of_queue t) (of_earliest l)
  lowers_is None m = m
  lowers_is (Some u) m = m

-- and of an event that is due so
module _ (q : ℕ) (l : Least) (d : Due) (e : Event) (h : IsDue d e) where
  pub low_here : d.queue ≡ q → {r : Bool} → r ≡ lowers (of_queue d.tag) l → r ≡ is_lower q l e
  unfolding is_lower in_queue
  low_here k m = rw (← h.queue, ← h.tag) (simp (eq-eqb _ _ k) m)

  pub low_other : (d.queue ≡ q → ⊥) → false ≡ is_lower q l e
  unfolding is_lower in_queue
  low_other n = rw (← h.queue) (simp (ne_eqb _ _ n))

-- ---- one event more of the front of the rows

module _ (l : List Event) (n : ℕ) (h : n < length l) where
  front_more : take (n + 1) l ≡ take n l ++ (get_or l n blank ∷ [])
  front_more = rw (add-one, take-suc l n blank h)

  pub stays_more : (p : Event → Bool) → p (get_or l n blank) ≡ false → lose p (take (n + 1) l) ≡ lose p (take n l) ++ (get_or l n blank ∷ [])
  unfolding lose
  stays_more p e = rw (front_more, lose_append) (simp e)

  pub goes_more : (p : Event → Bool) → p (get_or l n blank) ≡ true → lose p (take (n + 1) l) ≡ lose p (take n l)
  unfolding lose
  goes_more p e = rw (front_more, lose_append) (simp (e, append-nil))

-- ---- the heads of all queues

same_heads : (ds es : List Event) → ((q : ℕ) → least_of q ds ≡ least_of q es) → heads_of ds ≡ heads_of es
unfolding tab
same_heads ds es h = every 0 queues
  where
    every : (i n : ℕ) → tab (λ k. least_of (queue_of k) ds) i n ≡ tab (λ k. least_of (queue_of k) es) i n
    every i zero = refl
    every i (suc n) = rw (h (queue_of i), every (suc i) n)

pub heads_behind : (es : List Event) (e : Event) →
    set (heads_of es) (entry_of e.queue) (lesser e.tag (get_or (heads_of es) (entry_of e.queue) no_tag)) ≡ heads_of (es ++ (e ∷ []))
heads_behind es e = heads_more e es ∙ sym (same_heads (es ++ (e ∷ [])) (e ∷ es) (λ q. least_behind q es e))

-- what goes from other queues does not change a queue's least tag
pub least_lose : (q : ℕ) (p : Event → Bool) → ((e : Event) → p e ≡ true → in_queue q e ≡ false) → (es : List Event) → least_of q (lose p es) ≡ least_of q es
unfolding least_of lose
least_lose q p o [] = refl
least_lose q p o (e ∷ es) = go (p e) (in_queue q e) refl refl (least_lose q p o es)
  where
    go : (b c : Bool) → p e ≡ b → in_queue q e ≡ c → least_of q (lose p es) ≡ least_of q es →
        least_of q (cond b (lose p es) (e ∷ lose p es)) ≡ cond c (lesser e.tag (least_of q es)) (least_of q es)
    go true true a b r = absurd (yes_no b (o e a))
    go true false a b r = r
    go false c a b r = rw (r, b)

-- the events of a queue at a tag are of no other queue
pub other_queue : (q i : ℕ) (x : Tag) → (q ≡ i → ⊥) → (e : Event) → at_head q x e ≡ true → in_queue i e ≡ false
unfolding at_head in_queue
other_queue q i x n e a = let r : e.queue ≡ q = eqb-true _ _ (and_left _ _ a) in ne_eqb _ _ (λ (m : e.queue ≡ i). n (sym r ∙ m))

-- those of a queue at a tag go: one entry is another
pub heads_taken : (q : ℕ) (x : Tag) (es : List Event) → set (heads_of es) (entry_of q) (least_of q (lose (at_head q x) es)) ≡ heads_of (lose (at_head q x) es)
heads_taken q x es =
    let left = lose (at_head q x) es in
    sym
    (tab_set (λ j. least_of (queue_of j) es) (λ j. least_of (queue_of j) left) queues (entry_of q) (least_of q left)
    (λ h. ap (λ i. least_of i left) (entry_own q (entry_of q) h refl))
    (λ j h n. least_lose (queue_of j) (at_head q x) (other_queue q (queue_of j) x (entry_other q j h n)) es))

-- ---- kept from call to call

module _ (rows : List ℕ) (before after : ℕ) {ws : List ℕ} (w : Held ws (heads_of (take before (events_of rows)))) where
  pub grow_one : (d : Due) {out : List ℕ} → before ≤ after → after ≤ before + 1 → after ≤ room_for_events → (after ≡ before → ⊥) → IsDue d (get_or (events_of rows) before blank) →
      Held out (set (leasts_of ws) (entry_of d.queue) (lesser (of_queue d.tag) (get_or (leasts_of ws) (entry_of d.queue) no_tag))) →
      Held out (heads_of (take after (events_of rows)))
  grow_one d a b f n r o =
      let e : after ≡ before + 1 = omega arith in
      let l = events_long rows in
      let h : before < length (events_of rows) = omega arith in
      rw (e, front_more (events_of rows) before h, ← heads_behind (take before (events_of rows)) (get_or (events_of rows) before blank), ← w.things, ← r.queue, ← r.tag) o
