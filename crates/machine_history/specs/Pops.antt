-- A pop, turn by turn: the events it takes are those its turns name, and the others go on waiting. Assumes nothing.
use Prim.Native.Nat.{ℕ, zero, suc, ◌+◌, ◌-◌, ◌≤◌}
use Rattle.std.specs.Prelude.{Bool, true, false, ◌&&◌, ◌≡◌, leb, eqb, length}
use Rattle.std.proofs.Math.Path.{refl, ap, sym}
use Rattle.std.proofs.Common.{◌∙◌, le_refl, add-zero, add-suc}
use mathlib.Core.List.{List, [], ◌∷◌, ◌++◌, map, map-append, append-nil}
use native.Mathlib.Omega.{arith}
use Rattle.std.proofs.Math.ListN.{get_or}
use borrow.Author.Tests.{le-leb, lt-leb, eq-eqb, leb-false, eqb-true}
use Rattle.lists.specs.Tests.{gt_eqb}
use Rattle.lists.specs.Tests.{and_no}
use Rattle.lists.specs.Lists.{keep, lose, foldl}
use Rattle.tags.specs.Tags.{Tag, same_tag}
use Rattle.key_set.specs.Sets.{union_of, no_keys, word_count}
use Rattle.machine.specs.State.{Event, Scope, ordinary, in_queue, at_head}
use Rattle.machine.specs.Heads.{Head, empty, head, Taking, untaken, taken, take_at_of, held_at, ready_of, add_action}
use Rattle.lists.specs.Every.{by_test, no_way}
use Rattle.lists.specs.Each.{Each, each_imp, map_lose, any_map, foldl_map}
use Rattle.lists.proofs.Each.{map_keep}
use Rattle.machine_history.specs.Deeds.{bare, takes_at}
use Rattle.machine_history.specs.History.{most_turns, Fate, waits, popped, dropped, Entry, History, is_waiting, is_taken, taken_in, taken_up_to, taken_by, in_order}
use Rattle.machine_history.specs.Marks.{fated, now_in, marked, each_marked, mark_blind, mark_now, mark_new, order_marked, Later, later_same, later_then, later_popped}

-- an entry that the pop at place n took in a turn from r on
abbrev from_turn : ℕ → ℕ → Fate → Bool
from_turn n r waits = false
from_turn n r (popped m q) = eqb m n && leb r q
from_turn n r (dropped m) = false

-- no turn from r on of the pop at place n took the entry
abbrev pub Open : ℕ → ℕ → Entry → Type 0
Open n r x = from_turn n r x.fate ≡ false

-- ---- turns that took nothing

pub not_taken : (n r : ℕ) (f : Fate) → from_turn n r f ≡ false → is_taken n r f ≡ false
not_taken n r waits e = refl
not_taken n r (popped m q) e =
    by_test (eqb m n) (λ x. rw x (by_test (eqb q r) (λ y. no_way (sym (rw x at e) ∙ le-leb r q (omega (arith, eqb-true q r y)))) (λ y. y))) (λ x. rw x)
not_taken n r (dropped m) e = refl

none_in : (n r : ℕ) (h : History) → Each (Open n r) h → taken_in n r h ≡ []
unfolding taken_in keep
none_in n r [] e = refl
none_in n r (x ∷ h) e = rw (not_taken n r x.fate e.0) (none_in n r h e.1)

open_more : (n r : ℕ) (f : Fate) → from_turn n r f ≡ false → from_turn n (suc r) f ≡ false
open_more n r waits e = refl
open_more n r (popped m q) e =
    by_test (eqb m n) (λ x. rw x (lt-leb (suc r) q (omega (arith, leb-false r q (rw x at e))))) (λ x. rw x)
open_more n r (dropped m) e = refl

pub taken_end : (n r j : ℕ) (h : History) → Each (Open n r) h → taken_up_to n (r + j) h ≡ taken_up_to n r h
unfolding taken_up_to
taken_end n r zero h e = rw add-zero
taken_end n r (suc j) h e =
    rw (add-suc, none_in n (r + j) h (open_all j), append-nil (taken_up_to n (r + j) h)) (taken_end n r j h e)
  where
    open_all : (j : ℕ) → Each (Open n (r + j)) h
    open_all zero = rw add-zero e
    open_all (suc j) = rw add-suc (each_imp (Open n (r + j)) (Open n (suc (r + j))) (λ x. open_more n (r + j) x.fate) h (open_all j))

-- a turn leaves what the turns before it took
turns_before : (n r : ℕ) (p : Event → Bool) (h : History) (j : ℕ) → j ≤ r → taken_up_to n j (marked (popped n r) p h) ≡ taken_up_to n j h
unfolding taken_up_to taken_in
turns_before n r p h zero l = refl
turns_before n r p h (suc j) l =
    rw (turns_before n r p h j (omega arith), mark_blind (popped n r) p (λ x. is_taken n j x.fate) (λ x. rw (eq-eqb n n refl, gt_eqb r j (omega arith))) h)

-- ---- one turn

-- after r turns of the pop at place n, where P holds of each entry then
record Turn (P : ℕ → Entry → Type 0) (n r : ℕ) (k : Taking) (h : History) : Type 0 where
  now : map bare k.waiting ≡ now_in h
  took : map bare k.events ≡ taken_up_to n r h
  closed : Each (Open n r) h
  each : Each (P r) h

-- the heads hs are those of its turns, at the tag t
module _ (P : ℕ → Entry → Type 0) (n : ℕ) (t : Tag) (hs : List Head)
    (hit : (x : Entry) (r : ℕ) → r ≤ most_turns → P r x → is_waiting x.fate ≡ true → takes_at t (get_or hs r empty) x.event ≡ true → P (suc r) (fated x (popped n r)))
    (miss : (x : Entry) (r : ℕ) → P r x → (is_waiting x.fate && takes_at t (get_or hs r empty) x.event) ≡ false → P (suc r) x) where
  record Next (r : ℕ) (k : Taking) (h : History) : Type 0 where
    history : History
    turn : Turn P n r k history
    later : Later n h history
    order : in_order 0 history ≡ in_order 0 h

  turn_none : (r : ℕ) (k : Taking) (h : History) → ((e : Event) → takes_at t (get_or hs r empty) e ≡ false) → Turn P n r k h → Next (suc r) k h
  unfolding taken_up_to
  turn_none r k h z t =
      record {
        history = h;
        later = later_same n h;
        order = refl;
        turn =
            record {
              now = t.now;
              each = each_imp (P r) (P (suc r)) (λ x y. miss x r y (ap (is_waiting x.fate &&◌) (z x.event) ∙ and_no (is_waiting x.fate))) h t.each;
              took = t.took ∙ (sym (append-nil (taken_up_to n r h)) ∙ ap (taken_up_to n r h ++◌) (sym (none_in n r h t.closed)));
              closed = each_imp (Open n r) (Open n (suc r)) (λ x. open_more n r x.fate) h t.closed;
            };
      }

  turn_some :
      (r : ℕ) (k : Taking) (h : History) (q : ℕ) (y : Tag) → ((e : Event) → takes_at t (get_or hs r empty) e ≡ at_head q y e) → r ≤ most_turns → Turn P n r k h →
      Next (suc r) (taken q y k) h
  unfolding taken_up_to taken_in taken at_head in_queue
  turn_some r k h q y same l t =
      let p = at_head q y in
      let f = popped n r in
      record {
        history = marked f p h;
        later = later_popped n r p h;
        order = order_marked f p h 0;
        turn =
            record {
              now = map_lose bare p k.waiting ∙ (ap (lose p) t.now ∙ sym (mark_now f p refl h));
              took =
                  map-append bare k.events (keep p k.waiting) ∙
                  rw (
                    t.took,
                    turns_before n r p h r (le_refl r),
                    map_keep bare p k.waiting,
                    t.now,
                    mark_new f p (is_taken n r) (simp (eq-eqb n n refl, eq-eqb r r refl)) refl h
                        (each_imp (Open n r) (λ x. is_taken n r x.fate ≡ false) (λ x. not_taken n r x.fate) h t.closed),
                  );
              closed = each_marked f p (Open n r) (Open n (suc r)) (λ x o w. open_more n r x.fate o) (λ x o w z. rw (lt-leb (suc r) r (omega arith)) (and_no (eqb n n))) h t.closed;
              each =
                  each_marked f p (P r) (P (suc r)) (λ x z w. miss x r z (ap (is_waiting x.fate &&◌) (same x.event) ∙ w))
                  (λ x z w v. hit x r l z w (same x.event ∙ v)) h t.each;
            };
      }

  turn_at : (r : ℕ) (k : Taking) (h : History) (d : Head) → get_or hs r empty ≡ d → r ≤ most_turns → Turn P n r k h → Next (suc r) (take_at_of t k d) h
  turn_at r k h empty i l u = turn_none r k h (λ e. rw i) u
  turn_at r k h (head q y g) i l u =
      by_test (same_tag g t) (λ e. rw e (turn_some r k h q y (λ x. rw (i, e)) l u)) (λ e. rw e (turn_none r k h (λ x. rw (i, e)) u))

  -- ---- all turns

  -- some turns, as many as there are heads
  record Turns (k : Taking) (h : History) : Type 0 where
    count : ℕ
    few : count ≤ suc most_turns
    over : (q : ℕ) → count ≤ q → get_or hs q empty ≡ empty
    next : Next count k h

  after : {r : ℕ} {k l : Taking} {h : History} → (x : Next r k h) → Turns l x.history → Turns l h
  after x y =
      record {
        count = y.count;
        few = y.few;
        over = y.over;
        next =
            record {
              history = y.next.history;
              turn = y.next.turn;
              later = later_then x.later y.next.later;
              order = y.next.order ∙ x.order;
            };
      }

  all_turns_lem :
      (rest : List Head) (r : ℕ) (k : Taking) (h : History) → ((j : ℕ) → get_or hs (r + j) empty ≡ get_or rest j empty) → r + length rest ≤ suc most_turns →
      Turn P n r k h → Turns (foldl (take_at_of t) k rest) h
  unfolding foldl
  all_turns_lem [] r k h i l u =
      record {
        count = r;
        few = omega arith;
        over = λ q g. let z : q ≡ r + (q - r) = omega arith in ap (λ j. get_or hs j empty) z ∙ i (q - r);
        next = record { history = h; turn = u; later = later_same n h; order = refl };
      }
  all_turns_lem (d ∷ rest) r k h i l u =
      let z : r ≡ r + 0 = omega arith in
      let x = turn_at r k h d (ap (λ j. get_or hs j empty) z ∙ i 0) (omega arith) u in
      after x (all_turns_lem rest (suc r) (take_at_of t k d) x.history (λ j. let y : suc r + j ≡ r + suc j = omega arith in ap (λ j. get_or hs j empty) y ∙ i (suc j)) (omega arith) x.turn)

  -- what the pop at place n leaves: the others wait, and its turns name what it took
  pub record Pop (k : Taking) (h : History) : Type 0 where
    pub history : History
    pub later : Later n h history
    pub order : in_order 0 history ≡ in_order 0 h
    pub now : map bare k.waiting ≡ now_in history
    pub took : map bare k.events ≡ taken_by n history
    pub count : ℕ
    pub over : (q : ℕ) → count ≤ q → get_or hs q empty ≡ empty
    pub each : Each (P count) history

  -- turns that took nothing may follow
  whole : {k : Taking} {h : History} → Turns k h → Pop k h
  whole y =
      record {
        history = y.next.history;
        later = y.next.later;
        order = y.next.order;
        now = y.next.turn.now;
        count = y.count;
        over = y.over;
        each = y.next.turn.each;
        took = y.next.turn.took ∙ full y.count y.few y.next.history y.next.turn.closed;
      }
    where
      full : (r : ℕ) → r ≤ suc most_turns → (h : History) → Each (Open n r) h → taken_up_to n r h ≡ taken_by n h
      full r l h e = let z : r + (suc most_turns - r) ≡ suc most_turns = omega arith in sym (taken_end n r (suc most_turns - r) h e) ∙ ap (λ j. taken_up_to n j h) z

  pub pop_turns :
      (es : List Event) (work : ℕ) (h : History) → length hs ≤ suc most_turns → map bare es ≡ now_in h → Each (Open n 0) h → Each (P 0) h →
      Pop (foldl (take_at_of t) (untaken es work) hs) h
  unfolding taken_up_to
  pop_turns es work h few now closed each =
      whole
      (all_turns_lem hs 0 (untaken es work) h (λ j. let z : 0 + j ≡ j = omega arith in ap (λ j. get_or hs j empty) z) (omega arith)
      (record { now = now; took = refl; closed = closed; each = each }))

-- a pop that found no head took nothing
pub none_taken : (n : ℕ) (h : History) → Each (Open n 0) h → taken_by n h ≡ []
unfolding taken_up_to
none_taken n h e = let z : 0 + suc most_turns ≡ suc most_turns = omega arith in ap (λ j. taken_up_to n j h) (sym z) ∙ taken_end n 0 (suc most_turns) h e

-- the answer of a pop sees no stored tag
pub ready_bare : (ss : List Scope) (t : Tag) (es : List Event) → ready_of ss t (map bare es) ≡ ready_of ss t es
unfolding ready_of ordinary add_action
ready_bare ss t es =
    rw (
      any_map bare (λ e. e.terminal) es,
      any_map bare ordinary es,
      any_map bare (λ e. e.network) es,
      any_map bare (λ e. held_at ss e.queue e.tag) es,
      foldl_map bare (λ ws e. union_of ws e.reactions) es (no_keys word_count),
      foldl_map bare add_action es [],
    )
