-- A law for each case of a peek and a pop, and the loop over the scopes' turns. Assumes nothing.
use Rattle.std.specs.Prelude.{Some, None, MatchBool}
use Rattle.std.specs.Prelude as std
use Rattle.std.specs.List.{AllWithin, HoldsAt, range_with_len}
use mathlib.Core.Bool.{Bool, true, false, cond, not, ◌&&◌, ◌||◌}
use mathlib.Core.Path.{◌≡◌, refl, sym, ap, ◌∙◌}
use mathlib.Core.Logic.{⊎_elim}
use mathlib.Core.List.{List, [], ◌∷◌, ◌++◌, map, append-nil, append_assoc}
use Prim.Native.Nat.{ℕ, zero, suc, ◌+◌, ◌-◌, ◌<◌, ◌≤◌}
use native.Mathlib.Omega.{arith}
use lib.ListN.{length, take, drop, get_or, set}
use lib.Seq.{drop-cons}
use native.Mathlib.Numerals.{add-one}
use lib.Dec.{ltb, eqb}
use borrow.Author.Tests.{eqb-true, ltb-true, ltb-false, lt-ltb, le-ltb}
use Rattle.lists.specs.Tests.{lt_eqb, and_left, and_right, below?}
use Rattle.lists.specs.Lists.{keep, lose, any, count, every, every_at, foldl, from}
use Rattle.lists.specs.Lay.{lay}
use Rattle.lists.specs.Held.{thing_past}
use Rattle.lists.specs.Rows.{tab_at}
use Rattle.lists.proofs.Every.{count_split}
use Rattle.lists.specs.Every.{both, by_test, no_way}
use Rattle.table_rows.specs.Bytes.{Image}
use Rattle.tags.specs.Tags.{Tag, same_tag, earlier, to_global, held_in}
use Rattle.tags.specs.Views.{of_global, of_queue}
use Rattle.tags.specs.declared.GlobalTag.{GlobalTag}
use Rattle.tags.specs.declared.QueueTag.{QueueTag}
use Rattle.tags.proofs.Laws.{same_tag_lem}
use Rattle.machine.specs.Table.{scopes}
use Rattle.machine.specs.State.{Event, State, root, ordinary, in_queue, at_head, with_queue}
use Rattle.machine.specs.Heads.{Head, Least, no_tag, least, empty, head, least_of, root_of, scope_head_of, root_head, head_at, sooner, scope_head, peek, is_at, controlled, control_at, control_only}
use Rattle.machine.specs.Heads.{Taking, untaken, taken, take_at_of, take_scopes, taking, held_at, ready_of}
use Rattle.machine.specs.Machine as M
use Rattle.machine.specs.Machine.{Reply, nothing, ready, tag, answer, pop_at, peek_at, perform}
use Rattle.state_events.specs.Slots as slot
use Rattle.state_events.specs.Slots.{events_of, room_for_events}
use Rattle.state_scopes.specs.Scopes as scope
use Rattle.state_scopes.specs.Scopes.{Scope, most_scopes, scopes_of}
use Rattle.state_queues.specs.Queue as queue
use Rattle.state_queues.specs.Queue.{queues, queue_of, entry_of, of_earliest, leasts_of, heads_of}
use Rattle.state_queues.proofs.LowLaws.{least_lose, other_queue, heads_taken}
use Rattle.state_heads.specs.Found.{head_of, head_in, least_head}
use Rattle.state_heads.specs.declared.HeadAt.{HeadAt}
use Rattle.call_pop_ready.specs.Gathering.{Gathering, nothing_yet, none_yet, added_to, also_held, added_by, held_too, ready_at, gathering_of, Grown}
use Rattle.call_pop_ready.specs.declared.Gathered.{Gathered}
use Rattle.call_pop_ready.proofs.GatherLaws.{foldl_append, gathered, ready_nothing, grown_none, grown_then}
use Rattle.state_room.specs.declared.Counts.{Counts}
use Rattle.state_room.specs.PartRows.{Queued, Waits, Shows, queued_is, queued_waits, queued_laid, waits_queued}
use Rattle.call_pop.specs.Pops.{reply_of, lent, Takes, Pops}
use Rattle.call_pop.specs.declared.Taking as T

-- ---- the peek

module _ (h : std.Option HeadAt) (t : Tag) {r : Bool} where
  pub is_at_lem : {x : HeadAt} → h ≡ Some x → r ≡ same_tag (of_global x.tag) t → r ≡ is_at t (head_of h)
  is_at_lem e p = p ∙ rw e

module _ (a b : std.Option HeadAt) where
  pub peek_earlier :
      {x y : HeadAt} → a ≡ Some x → b ≡ Some y → earlier (of_global y.tag) (of_global x.tag) ≡ true → reply_of (Some y.tag) ≡ peek_at (sooner (head_of a) (head_of b))
  peek_earlier p q t = rw (p, q) (simp t)

  pub peek_later :
      {x y : HeadAt} → a ≡ Some x → b ≡ Some y → earlier (of_global y.tag) (of_global x.tag) ≡ false → reply_of (Some x.tag) ≡ peek_at (sooner (head_of a) (head_of b))
  peek_later p q t = rw (p, q) (simp t)

-- ---- the heads of some events

heads_root : (es : List Event) → get_or (heads_of es) most_scopes no_tag ≡ least_of root es
heads_root es = tab_at (λ k. least_of (queue_of k) es) queues most_scopes no_tag (omega arith)

pub root_head_lem : (es : List Event) {h : Head} {hs : List ℕ} → queue.Held hs (heads_of es) → h ≡ root_of (get_or (leasts_of hs) most_scopes no_tag) → h ≡ root_head es
unfolding root_head
root_head_lem es w p = p ∙ rw w.things (ap root_of (heads_root es))

heads_scope : (es : List Event) (i : ℕ) → i < most_scopes → get_or (heads_of es) i no_tag ≡ least_of i es
heads_scope es i h = tab_at (λ k. least_of (queue_of k) es) queues i no_tag (omega arith) ∙ simp (lt_eqb i most_scopes h)

module _ (img : Image) (ws : List ℕ) where
  -- the least head of the scopes in rows, by their least tags
  abbrev least_by : (ℕ → Least) → Head
  least_by f = foldl sooner empty (map (λ i. scope_head_of (get_or (scopes_of ws) i scope.blank) i (f i)) (from 0 (scopes img)))

  -- past the end of the rows no scope is active
  least_same : (f g : ℕ → Least) → ((i : ℕ) → i < most_scopes → f i ≡ g i) → least_by f ≡ least_by g
  unfolding scope_head_of
  least_same f g h = λ k. foldl sooner empty (map (λ i. one i k) (from 0 (scopes img)))
    where
      one : (i : ℕ) → scope_head_of (get_or (scopes_of ws) i scope.blank) i (f i) ≡ scope_head_of (get_or (scopes_of ws) i scope.blank) i (g i)
      one i =
          ⊎_elim (λ (b : i < most_scopes). rw (h i b))
          (λ (b : most_scopes ≤ i). rw (thing_past scope.decode scope.encode scope.scope_words most_scopes scope.encode_long ws i scope.blank b)) (below? i most_scopes)

  -- what the code finds is the machine's
  pub scope_head_lem : (es : List Event) {h : Head} {hs : List ℕ} {n : ℕ} → n ≡ scopes img → queue.Held hs (heads_of es) → h ≡ least_head (scopes_of ws) (leasts_of hs) n → h ≡ scope_head img (scopes_of ws) es
  unfolding least_head head_in scope_head head_at
  scope_head_lem es e w q = q ∙ rw (w.things, e) (least_same (λ i. get_or (heads_of es) i no_tag) (λ i. least_of i es) (heads_scope es))

  -- taking the root's leaves the scopes' heads
  root_goes : (x : Tag) (es : List Event) → scope_head img (scopes_of ws) (lose (at_head root x) es) ≡ scope_head img (scopes_of ws) es
  unfolding scope_head head_at
  root_goes x es =
      least_same (λ i. least_of i (lose (at_head root x) es)) (λ i. least_of i es)
      (λ i h. least_lose i (at_head root x) (other_queue root i x (λ (m : root ≡ i). omega arith)) es)

  root_leaves : (t : Tag) (es : List Event) (work : ℕ) → scope_head img (scopes_of ws) (take_at_of t (untaken es work) (root_head es)).waiting ≡ scope_head img (scopes_of ws) es
  unfolding root_head taken
  root_leaves t es work = go (least_of root es)
    where
      by : (b : Bool) (x : Tag) → scope_head img (scopes_of ws) (cond b (taken root x (untaken es work)) (untaken es work)).waiting ≡ scope_head img (scopes_of ws) es
      by true x = root_goes x es
      by false x = refl

      go : (l : Least) → scope_head img (scopes_of ws) (take_at_of t (untaken es work) (root_of l)).waiting ≡ scope_head img (scopes_of ws) es
      go no_tag = refl
      go (least x) = by (same_tag x t) x

-- ---- a state in the rows

pub queue_is : (s : State) (ev : List ℕ) (c : Counts) → c.waiting ≤ room_for_events → Queued s.waiting s.work ev c → take c.waiting (events_of ev) ≡ s.waiting
queue_is s ev c f q = queued_is s.waiting s.work ev c q (rw (← q.waiting) f)

-- the heads that the code finds are the machine's
pub record Seen (img : Image) (s : State) (a b : std.Option HeadAt) : Type 0 where
  pub root : head_of a ≡ root_head s.waiting
  pub local : head_of b ≡ scope_head img s.scopes s.waiting

pub seen_peek : {img : Image} {s : State} {a b : std.Option HeadAt} {r : Reply} → Seen img s a b → r ≡ peek_at (sooner (head_of a) (head_of b)) → r ≡ peek_at (peek img s.scopes s.waiting)
unfolding peek
seen_peek w e = e ∙ rw (w.root, w.local)

module _ (img : Image) (s : State) (ws : List ℕ) (h : Shows s ws) where
  local_is : (es : List Event) → scope_head img (scopes_of ws) es ≡ scope_head img s.scopes es
  unfolding scope_head head_at
  local_is es = λ k. foldl sooner empty (map (λ i. scope_head_of (h i k) i (least_of i es)) (from 0 (scopes img)))

  pub seen :
      (a b : std.Option HeadAt) {hs : List ℕ} {n : ℕ} → n ≡ scopes img → queue.Held hs (heads_of s.waiting) →
      head_of a ≡ root_of (get_or (leasts_of hs) most_scopes no_tag) → head_of b ≡ least_head (scopes_of ws) (leasts_of hs) n → Seen img s a b
  seen a b e w p r = record { root = root_head_lem s.waiting w p; local = scope_head_lem img ws s.waiting e w r ∙ local_is s.waiting }

  scopes_are : (m : ℕ) (t : Tag) (k : Taking) → take_scopes m img (scopes_of ws) t k ≡ take_scopes m img s.scopes t k
  unfolding take_scopes
  scopes_are zero t k = refl
  scopes_are (suc m) t k = rw (local_is k.waiting, scopes_are m t (take_at_of t k (scope_head img s.scopes k.waiting)))

module _ (img : Image) (s : State) (ev ws : List ℕ) (c : Counts) (few : c.waiting ≤ room_for_events) (q : Queued s.waiting s.work ev c) (h : Shows s ws) where
  pub seen_in :
      (a b : std.Option HeadAt) {hs : List ℕ} {n : ℕ} → n ≡ scopes img → queue.Held hs (heads_of (take c.waiting (events_of ev))) →
      head_of a ≡ root_of (get_or (leasts_of hs) most_scopes no_tag) → head_of b ≡ least_head (scopes_of ws) (leasts_of hs) n → Seen img s a b
  seen_in a b e k p r = seen img s ws h a b e (rw (queue_is s ev c few q) at k) p r

  taking_is : (t : Tag) → take_scopes c.waiting img (scopes_of ws) t (take_at_of t (lent ev c) (root_head s.waiting)) ≡ taking img s.scopes t (untaken s.waiting s.work)
  unfolding taking
  taking_is t = rw (queue_is s ev c few q, q.work, q.waiting, scopes_are img s ws h)

-- ---- a head by what its peek answers

some_not : {t : GlobalTag} → ◌≡◌ {A = std.Option GlobalTag} (Some t) None → ⊥
some_not e = let z : ◌≡◌ {A = ℕ} 0 1 = cc in omega arith

no_tag_lem : {P : Type 0} {t : Tag} → ◌≡◌ {A = Reply} nothing (tag t) → P
no_tag_lem e = let z : ◌≡◌ {A = ℕ} 0 1 = cc in absurd (omega arith)

module _ (img : Image) (s : State) where
  pop_nothing : (h : Head) → nothing ≡ peek_at h → pop_at img s h ≡ answer nothing s
  pop_nothing empty e = refl
  pop_nothing (head q x t) e = no_tag_lem e

  pop_found : (h : Head) (t : Tag) → tag t ≡ peek_at h → pop_at img s h ≡ pop_at img s (head root t t)
  pop_found empty t e = no_tag_lem (sym e)
  pop_found (head q x u) t e = let d : t ≡ u = cc in rw d

  -- a pop changes the queue and nothing else
  pub pop_frame : let t = (perform img s M.pop).state in t ≡ with_queue s t.waiting t.work
  unfolding perform
  pop_frame = go (peek img s.scopes s.waiting)
    where
      go : (h : Head) → let t = (pop_at img s h).state in t ≡ with_queue s t.waiting t.work
      go empty = refl
      go (head q x t) = refl

module _ (img : Image) (ss : List Scope) (es : List Event) where
  control_none : (h : Head) → nothing ≡ peek_at h → false ≡ control_at img ss es h
  control_none empty e = refl
  control_none (head q x t) e = no_tag_lem e

  control_some : (h : Head) (t : Tag) → tag t ≡ peek_at h → control_at img ss es h ≡ (is_at t (root_head es) && (every (controlled t) es && not (is_at t (scope_head img ss es))))
  control_some empty t e = no_tag_lem (sym e)
  control_some (head q x u) t e = let d : t ≡ u = cc in rw d

-- by the tests that the code makes
module _ {img : Image} {s : State} {a b : std.Option HeadAt} (w : Seen img s a b) (p : std.Option GlobalTag) (e : reply_of p ≡ peek_at (sooner (head_of a) (head_of b))) where
  abbrev Only : Bool → Type 0
  Only r = M.flag r ≡ (perform img s M.only_control).reply

  pub control_nothing : p ≡ None → Only false
  unfolding perform control_only
  control_nothing d = ap M.flag (control_none img s.scopes s.waiting (peek img s.scopes s.waiting) (sym (ap reply_of d) ∙ seen_peek w e))

  module _ {t : GlobalTag} (d : p ≡ Some t) where
    pub control_some_lem : {r : Bool} → r ≡ (is_at (of_global t) (head_of a) && (every (controlled (of_global t)) s.waiting && not (is_at (of_global t) (head_of b)))) → Only r
    unfolding perform control_only
    control_some_lem q = ap M.flag (q ∙ rw (w.root, w.local) (sym (control_some img s.scopes s.waiting (peek img s.scopes s.waiting) (of_global t) (sym (ap reply_of d) ∙ seen_peek w e))))

-- ---- the library's `all`, and the machine's test of every event

module _ {A : Type 0} (p : A → Bool) where
  every_each : (l : List A) → ((k : ℕ) (d : A) → k < length l → p (get_or l k d) ≡ true) → every p l ≡ true
  unfolding every
  every_each [] f = refl
  every_each (a ∷ l) f = both (f 0 a (omega arith)) (every_each l (λ k d h. f (suc k) d (omega arith)))

  every_other : (l : List A) → (k : ℕ) → k < length l → ((d : A) → p (get_or l k d) ≡ false) → every p l ≡ false
  every_other [] k h f = absurd (omega arith)
  every_other (a ∷ l) k h f = by_test (every p (a ∷ l)) (λ t. no_way (sym (f a) ∙ every_at p (a ∷ l) k a h t)) (λ e. e)

  pub all_of :
      (l : List A) (r : Bool) → MatchBool r (AllWithin (λ a. p a ≡ true) l 0 (length l)) ((k : ℕ) × (k < length l) × HoldsAt (λ a. p a ≡ false) l k) → r ≡ every p l
  all_of l true m = sym (every_each l (λ k d h. m k d (omega arith) h))
  all_of l false m = sym (every_other l m.0 m.1 m.2)

-- the first n of a list, by their places
module _ {A : Type 0} (p : A → Bool) (l : List A) (d : A) where
  every_part : (n i : ℕ) → i + n ≤ length l → every (λ j. p (get_or l j d)) (range_with_len i n) ≡ every p (take n (drop i l))
  unfolding every
  every_part zero i h = refl
  every_part (suc n) i h = rw (drop-cons l i d (omega arith)) (ap (λ b. p (get_or l i d) && b) (every_part n (i + 1) (omega arith) ∙ rw add-one))

  pub every_front : (n : ℕ) → n ≤ length l → every (λ j. p (get_or l j d)) (range_with_len 0 n) ≡ every p (take n l)
  every_front n h = every_part n 0 (omega arith)

-- ---- taking at one head

both_lengths : {A : Type 0} (p : A → Bool) (l : List A) → length (keep p l) + length (lose p l) ≡ length l
unfolding keep lose
both_lengths p [] = refl
both_lengths p (a ∷ l) = go (p a) (both_lengths p l)
  where
    go : (b : Bool) → length (keep p l) + length (lose p l) ≡ length l → length (cond b (a ∷ keep p l) (keep p l)) + length (cond b (lose p l) (a ∷ lose p l)) ≡ suc (length l)
    go true h = omega arith
    go false h = omega arith

one_each : (m n : ℕ) (b : Bool) → ltb m n ≡ b → ltb (suc m) (suc n) ≡ b
one_each m n true e = lt-ltb (suc m) (suc n) (omega (arith, ltb-true m n e))
one_each m n false e = le-ltb (suc m) (suc n) (omega (arith, ltb-false m n e))

-- fewer are left than there were, if any went
some_went : {A : Type 0} (p : A → Bool) (l : List A) → ltb (length (lose p l)) (length l) ≡ any p l
unfolding lose any
some_went p [] = refl
some_went p (a ∷ l) = go (p a) (some_went p l)
  where
    go : (b : Bool) → ltb (length (lose p l)) (length l) ≡ any p l → ltb (length (cond b (lose p l) (a ∷ lose p l))) (suc (length l)) ≡ (b || any p l)
    go true h = lt-ltb (length (lose p l)) (suc (length l)) (omega (arith, both_lengths p l))
    go false h = one_each (length (lose p l)) (length l) (any p l) h

-- held back, and more events: in either order
hold_late : (b : Bool) (l : List Event) (g : Gathering) → foldl added_to (also_held b g) l ≡ also_held b (foldl added_to g l)
unfolding foldl added_to
hold_late b [] g = refl
hold_late b (e ∷ l) g = hold_late b l (added_to g e)

hold_none : (g : Gathering) → g ≡ also_held false g
hold_none g = go g.held refl
  where
    go : (b : Bool) → g.held ≡ b → g ≡ also_held false g
    go true e = rw e
    go false e = rw e

hold_twice : (held some : Bool) (g : Gathering) → also_held (some && held) (also_held held g) ≡ also_held held g
hold_twice held some g = ap (λ b. record { terminal = g.terminal; work = g.work; network = g.network; held = b; reactions = g.reactions; actions = g.actions }) (go g.held held some)
  where
    go : (a h s : Bool) → ((a || h) || (s && h)) ≡ (a || h)
    go true h s = refl
    go false true s = refl
    go false false true = refl
    go false false false = refl

-- of the events at one head all are held back, or none is: so the pop is told once, if there are any
module _ (ss : List Scope) (q : ℕ) (x : Tag) where
  abbrev held_here : Bool
  held_here = held_at ss q x

  one_held : (g : Gathering) (e : Event) → at_head q x e ≡ true → added_by ss g e ≡ also_held held_here (added_to g e)
  unfolding at_head in_queue
  one_held g e y =
      let i = eqb-true e.queue q (and_left (eqb e.queue q) _ y) in
      let j = same_tag_lem e.tag x (and_right (eqb e.queue q) _ y) in
      let z : held_at ss e.queue e.tag ≡ held_here = rw (i, j) in
      ap (λ b. also_held b (added_to g e)) z

  all_held : (l : List Event) (g : Gathering) →
      foldl (added_by ss) g (keep (at_head q x) l) ≡ also_held (any (at_head q x) l && held_here) (foldl added_to g (keep (at_head q x) l))
  unfolding keep foldl any
  all_held [] g = hold_none g
  all_held (e ∷ l) g = go (at_head q x e) refl (all_held l)
    where
      kept : List Event
      kept = keep (at_head q x) l

      go : (b : Bool) → at_head q x e ≡ b → ((h : Gathering) → foldl (added_by ss) h kept ≡ also_held (any (at_head q x) l && held_here) (foldl added_to h kept)) →
          foldl (added_by ss) g (cond b (e ∷ kept) kept) ≡ also_held ((b || any (at_head q x) l) && held_here) (foldl added_to g (cond b (e ∷ kept) kept))
      go true y rest =
          let h = added_to g e in
          ap (λ h. foldl (added_by ss) h kept) (one_held g e y) ∙
          (rest (also_held held_here h) ∙
          (ap (also_held (any (at_head q x) l && held_here)) (hold_late held_here kept h) ∙ hold_twice held_here (any (at_head q x) l) (foldl added_to h kept)))
      go false y rest = rest g

module _ (ss : List Scope) (ws : List ℕ) (given : T.Taking) (w : Waits ws given.counts) where
  abbrev old : List Event
  old = take given.counts.waiting (events_of ws)

  pub takes_none : (keys : List ℕ) → given.gathered.actions + given.counts.waiting ≤ room_for_events → Takes ss (lent ws given.counts) given given keys ws keys
  unfolding foldl
  takes_none keys r = record { queued = waits_queued ws given.counts w; waits = w; gathered = refl; grown = grown_none given.gathered.actions keys; room = r }

  module _ (q : ℕ) (x : Tag) (m o : ℕ) (p : m ≡ length (lose (at_head q x) old)) (d : o ≡ count ordinary (keep (at_head q x) old)) where
    pub went_few : o ≤ given.counts.work
    went_few = omega (arith, w.counted, count_split ordinary (at_head q x) old)

    pub takes_some :
        {held : Bool} (g marked : Gathered) (keys next out : List ℕ) → held ≡ (ltb m given.counts.waiting && held_at ss q x) → marked ≡ held_too held g →
        slot.Held out (lay slot.blank (events_of ws) (lose (at_head q x) old) given.counts.waiting) →
        gathering_of g next ≡ foldl added_to (gathering_of given.gathered keys) (keep (at_head q x) old) →
        g.actions ≤ given.gathered.actions + length (keep (at_head q x) old) → Grown given.gathered.actions g.actions keys next →
        given.gathered.actions + given.counts.waiting ≤ room_for_events →
        Takes ss (taken q x (lent ws given.counts)) given (record { gathered = marked; counts = record { waiting = m; work = given.counts.work - o } }) keys out next
    unfolding taken
    takes_some {held} g marked keys next out h j k s a b r =
        let c = given.counts in
        let was = waits_queued ws c w in
        let few : length old ≤ room_for_events = rw (← was.waiting) w.few in
        let z = both_lengths (at_head q x) old in
        let left : length (lose (at_head q x) old) ≤ room_for_events = omega arith in
        let new : Queued (lose (at_head q x) old) (c.work - count ordinary (keep (at_head q x) old)) out (record { waiting = m; work = c.work - o }) =
        record { held = queued_laid old c.work ws c (lose (at_head q x) old) out was few k; waiting = p; work = rw d } in
        let f : Gathering = foldl added_to (gathering_of given.gathered keys) (keep (at_head q x) old) in
        let t : ltb m c.waiting ≡ any (at_head q x) old =
        ap (λ n. ltb n c.waiting) p ∙ (ap (ltb (length (lose (at_head q x) old))) was.waiting ∙ some_went (at_head q x) old) in
        rw j
        (record {
          queued = new;
          waits = queued_waits _ _ out _ new left (omega (arith, w.counted, count_split ordinary (at_head q x) old));
          gathered = ap (also_held held) s ∙ (ap (λ b. also_held b f) (h ∙ ap (◌&& held_at ss q x) t) ∙ sym (all_held ss q x old (gathering_of given.gathered keys)));
          grown = b;
          room = omega (arith, was.waiting);
        })

-- by the head's case
module _ (t : Tag) (k : Taking) (h : std.Option HeadAt) where
  pub at_none : h ≡ None → take_at_of t k (head_of h) ≡ k
  at_none e = rw e

  module _ (x : HeadAt) (e : h ≡ Some x) where
    pub at_other : same_tag (of_global x.tag) t ≡ false → take_at_of t k (head_of h) ≡ k
    at_other d = rw e (simp d)

    pub at_there : same_tag (of_global x.tag) t ≡ true → take_at_of t k (head_of h) ≡ taken x.queue (of_queue x.stamp) k
    at_there d = rw e (simp d)

-- ---- the scopes' turns

-- taken after some others
abbrev after : List Event → Taking → Taking
after es k = record { waiting = k.waiting; work = k.work; events = es ++ k.events }

module _ (img : Image) (ss : List Scope) (t : Tag) where
  at_after : (es : List Event) (k : Taking) (h : Head) → take_at_of t (after es k) h ≡ after es (take_at_of t k h)
  unfolding taken
  at_after es k empty = refl
  at_after es k (head q x g) = go (same_tag g t)
    where
      go : (b : Bool) → cond b (taken q x (after es k)) (after es k) ≡ after es (cond b (taken q x k) k)
      go true = rw append_assoc
      go false = refl

  scopes_after : (es : List Event) (m : ℕ) (k : Taking) → take_scopes m img ss t (after es k) ≡ after es (take_scopes m img ss t k)
  unfolding take_scopes
  scopes_after es zero k = refl
  scopes_after es (suc m) k = go (is_at t h) (scopes_after es m (take_at_of t k h))
    where
      h : Head
      h = scope_head img ss k.waiting

      go : (b : Bool) → take_scopes m img ss t (after es (take_at_of t k h)) ≡ after es (take_scopes m img ss t (take_at_of t k h)) →
          cond b (take_scopes m img ss t (take_at_of t (after es k) h)) (after es k) ≡ after es (cond b (take_scopes m img ss t (take_at_of t k h)) k)
      go true r = ap (take_scopes m img ss t) (at_after es k h) ∙ r
      go false r = refl

  take_more : (m : ℕ) (k : Taking) (h : Head) → h ≡ scope_head img ss k.waiting → is_at t h ≡ true → take_scopes (suc m) img ss t k ≡ take_scopes m img ss t (take_at_of t k h)
  unfolding take_scopes
  take_more m k h e y = let z : is_at t (scope_head img ss k.waiting) ≡ true = rw e at y in simp z (rw e)

  take_other : (m : ℕ) (k : Taking) (h : Head) → h ≡ scope_head img ss k.waiting → is_at t h ≡ false → take_scopes m img ss t k ≡ k
  unfolding take_scopes
  take_other zero k h e y = refl
  take_other (suc m) k h e y = let z : is_at t (scope_head img ss k.waiting) ≡ false = rw e at y in simp z

module _ {ss : List Scope} {k : Taking} {given g : T.Taking} {was ws keys : List ℕ} (w : Takes ss k given g was ws keys) where
  takes_waiting : take g.counts.waiting (events_of ws) ≡ k.waiting
  takes_waiting = queued_is k.waiting k.work ws g.counts w.queued (rw (← w.queued.waiting) w.waits.few)

  -- every queue's least tag, where events of one queue went
  pub heads_left :
      (q : ℕ) (x : Tag) (es : List Event) (t : std.Option QueueTag) {hs out : List ℕ} → k.waiting ≡ lose (at_head q x) es → queue.Held hs (heads_of es) →
      of_earliest t ≡ least_of q (lose (at_head q x) es) → queue.Held out (set (leasts_of hs) (entry_of q) (of_earliest t)) →
      queue.Held out (heads_of (take g.counts.waiting (events_of ws)))
  heads_left q x es t e h l o = rw (takes_waiting, e, ← heads_taken q x es, ← h.things, ← l) o

  -- the scopes' after these
  pub takes_then :
      (img : Image) (t : Tag) (m : ℕ) {r : T.Taking} {out next : List ℕ} → Takes ss (take_scopes m img ss t (lent ws g.counts)) g r keys out next →
      Takes ss (take_scopes m img ss t k) given r was out next
  takes_then img t m v =
      let j = take_scopes m img ss t (lent ws g.counts) in
      let here : k ≡ after k.events (lent ws g.counts) = rw (takes_waiting, w.queued.work, append-nil k.events) in
      rw (ap (take_scopes m img ss t) here ∙ scopes_after img ss t k.events m (lent ws g.counts))
      (record {
        queued = v.queued;
        waits = v.waits;
        gathered = v.gathered ∙ rw (foldl_append (added_by ss) (gathering_of given.gathered was) k.events j.events, w.gathered);
        grown = grown_then w.grown v.grown;
        room = v.room;
      })

-- the root's are taken: the least scope head is as it was
pub local_still :
    (img : Image) (ev ws : List ℕ) (c : Counts) (t : Tag) {a : Head} {given g : T.Taking} {was mid keys : List ℕ} {b : Head} →
    a ≡ root_head (take c.waiting (events_of ev)) → Takes (scopes_of ws) (take_at_of t (lent ev c) a) given g was mid keys → b ≡ scope_head img (scopes_of ws) (take c.waiting (events_of ev)) →
    b ≡ scope_head img (scopes_of ws) (take g.counts.waiting (events_of mid))
local_still img ev ws c t r v e = e ∙ (sym (root_leaves img ws t (take c.waiting (events_of ev)) c.work) ∙ rw (takes_waiting v, r))

-- the loop's state: what is left to take from here makes the whole
module _ (img : Image) (ss : List Scope) (t : Tag) where
  pub record Going (end : Taking) (given : T.Taking) (was : List ℕ) (turns : ℕ) (ws keys : List ℕ) (g : T.Taking) (h : Head) : Type 0 where
    pub rest : (r : T.Taking) (out next : List ℕ) → Takes ss (take_scopes turns img ss t (lent ws g.counts)) g r keys out next → Takes ss end given r was out next
    pub local : h ≡ scope_head img ss (take g.counts.waiting (events_of ws))
    pub waits : Waits ws g.counts
    pub long : length keys ≡ length was
    pub room : g.gathered.actions + g.counts.waiting ≤ room_for_events

  pub going_start :
      (turns : ℕ) (ws keys : List ℕ) (given : T.Taking) (h : Head) → Waits ws given.counts → given.gathered.actions + given.counts.waiting ≤ room_for_events →
      h ≡ scope_head img ss (take given.counts.waiting (events_of ws)) → Going (take_scopes turns img ss t (lent ws given.counts)) given keys turns ws keys given h
  going_start turns ws keys given h w r e = record { rest = λ _ out next v. v; local = e; waits = w; long = refl; room = r }

module _ {img : Image} {ss : List Scope} {t : Tag} {end : Taking} {given g : T.Taking} {was ws keys : List ℕ} {turns : ℕ} {h : Head}
    (w : Going img ss t end given was turns ws keys g h) where
  pub going_next :
      {out next : List ℕ} {i : T.Taking} {j : Head} → 0 < turns → is_at t h ≡ true → Takes ss (take_at_of t (lent ws g.counts) h) g i keys out next →
      j ≡ scope_head img ss (take i.counts.waiting (events_of out)) → Going img ss t end given was (turns - 1) out next i j
  going_next z y v e =
      let s : turns ≡ suc (turns - 1) = omega arith in
      let q : take_scopes turns img ss t (lent ws g.counts) ≡ take_scopes (turns - 1) img ss t (take_at_of t (lent ws g.counts) h) =
      ap (λ m. take_scopes m img ss t (lent ws g.counts)) s ∙ take_more img ss t (turns - 1) (lent ws g.counts) h w.local y in
      record {
        rest = λ r o n x. w.rest r o n (rw q (takes_then v img t (turns - 1) x));
        local = e;
        waits = v.waits;
        long = v.grown.long ∙ w.long;
        room = v.room;
      }

  -- the end, where no turn is left or the least head is another
  over : take_scopes turns img ss t (lent ws g.counts) ≡ lent ws g.counts → Takes ss end given g was ws keys
  over q = w.rest g ws keys (rw q (takes_none ss ws g w.waits keys w.room))

  pub going_end : turns ≤ 0 → Takes ss end given g was ws keys
  unfolding take_scopes
  going_end z = let e : turns ≡ 0 = omega arith in over (rw e)

  pub going_stop : is_at t h ≡ false → Takes ss end given g was ws keys
  going_stop y = over (take_other img ss t turns (lent ws g.counts) h w.local y)

-- ---- the whole pop

-- what is gathered is the machine's ready event
ready_is : (ss : List Scope) (t : Tag) (es : List Event) → ready_at t (foldl (added_by ss) nothing_yet es) ≡ ready_of ss t es
unfolding foldl ready_of
ready_is ss t es = ap (ready_at t) (rw (← ready_nothing ss t) (gathered ss t [] es))

-- held by the clocks in the rows, and so by the state's
held_shown : (s : State) (ws : List ℕ) → Shows s ws → (es : List Event) (g : Gathering) → foldl (added_by (scopes_of ws)) g es ≡ foldl (added_by s.scopes) g es
unfolding foldl held_at
held_shown s ws h [] g = refl
held_shown s ws h (e ∷ es) g =
    held_shown s ws h es (added_by (scopes_of ws) g e) ∙
    ap (λ x. foldl (added_by s.scopes) (also_held (not (eqb e.queue root) && held_in (to_global x.clock e.tag)) (added_to g e)) es) (h e.queue)

module _ (ev : List ℕ) (c : Counts) (g : Gathered) (o : g ≡ none_yet) (w : Waits ev c) where
  pub start_room : g.actions + c.waiting ≤ room_for_events
  start_room = rw o (omega (arith, w.few))

  -- by what the peek answers
  module _ {img : Image} {s : State} {a b : std.Option HeadAt} (n : Seen img s a b) (p : std.Option GlobalTag) (e : reply_of p ≡ peek_at (sooner (head_of a) (head_of b))) (q : Queued s.waiting s.work ev c) where
    pub pops_nothing :
        p ≡ None → (keys : List ℕ) → Pops (perform img s M.pop) (record { tag = None; gathered = g; counts = c }) keys ev keys
    unfolding perform
    pops_nothing d keys =
        rw (pop_nothing img s (peek img s.scopes s.waiting) (sym (ap reply_of d) ∙ seen_peek n e))
        (record { reply = refl; queued = q; waits = w; grown = rw o (grown_none 0 keys); room = start_room; idle = λ _. o })

    pub pops_found :
        {t : GlobalTag} → p ≡ Some t → (ws : List ℕ) → Shows s ws → (all : T.Taking) {keys out next : List ℕ} →
        Takes (scopes_of ws) (take_scopes c.waiting img (scopes_of ws) (of_global t) (take_at_of (of_global t) (lent ev c) (head_of a))) (record { gathered = g; counts = c }) all keys out next →
        Pops (perform img s M.pop) (record { tag = Some t; gathered = all.gathered; counts = all.counts }) keys out next
    unfolding perform
    pops_found {t} d ws h all v =
        let k = taking img s.scopes (of_global t) (untaken s.waiting s.work) in
        let u = rw (n.root, taking_is img s ev ws c w.few q h (of_global t), o) at v in
        rw (pop_found img s (peek img s.scopes s.waiting) (of_global t) (sym (ap reply_of d) ∙ seen_peek n e))
        (record {
          reply = ap ready (ap (ready_at (of_global t)) (u.gathered ∙ held_shown s ws h k.events nothing_yet) ∙ ready_is s.scopes (of_global t) k.events);
          queued = u.queued;
          waits = u.waits;
          grown = u.grown;
          room = u.room;
          idle = λ z. absurd (some_not z);
        })
