-- Taking events out of the rows. Assumes nothing.
use Rattle.std.specs.Int.{from_bool}
use mathlib.Core.Bool.{Bool, true, false, cond, ◌&&◌}
use mathlib.Core.Path.{◌≡◌, refl, sym, ap, ◌∙◌}
use mathlib.Core.List.{List}
use Prim.Native.Nat.{ℕ, suc, ◌+◌, ◌<◌, ◌≤◌}
use native.Mathlib.Omega.{arith}
use lib.ListN.{length, get_or, set, take, length-take}
use lib.Dec.{eqb}
use borrow.Author.Tests.{eq-eqb, ne_eqb}
use Rattle.lists.specs.Lists.{keep, lose, count, count_append, over, over_read, lose_shorter}
use Rattle.lists.proofs.Lists.{keep_suc_yes, keep_suc_no}
use Rattle.lists.specs.Lay.{lay}
use Rattle.lists.specs.Tests.{and_no}
use Rattle.lists.specs.Loops as loops
use Rattle.tags.specs.Tags.{same_tag}
use Rattle.tags.specs.Views.{of_queue}
use Rattle.tags.specs.declared.QueueTag.{QueueTag}
use Rattle.machine.specs.State.{Event, ordinary, at_head, in_queue}
use Rattle.state_events.specs.Slots.{room_for_events}
use Rattle.state_events.specs.Slots.{slot_words, blank, encode, decode, encode_long, events_of, Whole, Held, IsDue}
use Rattle.state_events.specs.declared.Due.{Due}
use Rattle.state_events.proofs.SlotLaws.{events_long}
use Rattle.state_queues.specs.Queue.{one_if}

-- ---- which go

-- an event that is due so
module _ (d : Due) (q : ℕ) (t : QueueTag) (e : Event) (h : IsDue d e) where
  at_due : (eqb d.queue q && same_tag (of_queue d.tag) (of_queue t)) ≡ at_head q (of_queue t) e
  unfolding at_head in_queue
  at_due = rw (h.queue, h.tag)

  pub due_here : {r : Bool} → d.tag.0 ≡ t.0 → d.queue ≡ q → r ≡ eqb d.tag.1 t.1 → r ≡ at_head q (of_queue t) e
  unfolding same_tag
  due_here o k m = m ∙ (simp (eq-eqb _ _ o, eq-eqb _ _ k) refl ∙ at_due)

  pub due_elsewhere : (d.queue ≡ q → ⊥) → false ≡ at_head q (of_queue t) e
  unfolding same_tag
  due_elsewhere k = simp (ne_eqb _ _ k) refl ∙ at_due

  pub due_otherwise : (d.tag.0 ≡ t.0 → ⊥) → false ≡ at_head q (of_queue t) e
  unfolding same_tag
  due_otherwise o = sym (and_no (eqb d.queue q)) ∙ (simp (ne_eqb _ _ o) refl ∙ at_due)

-- ---- the ordinary ones that went

-- a flag's number
pub one_is : (b : Bool) {n : ℕ} → n ≡ from_bool b → (n ≡ one_if b) × (n < 2)
one_is true e = (e, omega arith)
one_is false e = (e, omega arith)

module _ (p : Event → Bool) (es : List Event) (i : ℕ) (e : Event) (h : i < length es) (r : e ≡ get_or es i blank) where
  pub went_yes : (m k : ℕ) → p e ≡ true → m ≡ count ordinary (keep p (take i es)) → k ≡ one_if (ordinary e) → m + k ≡ count ordinary (keep p (take (i + 1) es))
  unfolding count
  went_yes m k t a b =
      let q : p (get_or es i blank) ≡ true = rw r at t in
      rw (keep_suc_yes p es i blank h q, count_append, ← r, a, b) (ap (λ x. count ordinary (keep p (take i es)) + x) (one (ordinary e)))
    where
      one : (x : Bool) → cond x 1 0 ≡ cond x (suc 0) 0
      one true = refl
      one false = refl

  pub went_no : (m : ℕ) → p e ≡ false → m ≡ count ordinary (keep p (take i es)) → m ≡ count ordinary (keep p (take (i + 1) es))
  went_no m t a = let q : p (get_or es i blank) ≡ false = rw r at t in a ∙ rw (keep_suc_no p es i blank h q)

-- ---- the loop's state: those that stay over the front, and the ordinary ones that went

pub record Taken (p : Event → Bool) (ws : List ℕ) (i m k : ℕ) (out : List ℕ) : Type 0 where
  pub kept : loops.Compacted decode encode slot_words room_for_events encode_long p ws i m out
  pub went : k ≡ count ordinary (keep p (take i (events_of ws)))
  pub short : k ≤ i

pub taken_none : (p : Event → Bool) (ws : List ℕ) → Whole ws → Taken p ws 0 0 0 ws
unfolding keep count
taken_none p ws h = record { kept = loops.compact_none decode encode slot_words room_for_events encode_long p ws h; went = refl; short = omega arith }

module _ (p : Event → Bool) (ws : List ℕ) (n i m k : ℕ) (out : List ℕ) (b : i < n) (f : n ≤ room_for_events) (h : Taken p ws i m k out) (e : Event)
    (r : e ≡ get_or (events_of out) i blank) (x : Bool) (t : x ≡ p e) where
  pub original : e ≡ get_or (events_of ws) i blank
  original =
      let es = events_of ws in
      let s : length (lose p (take i es)) ≤ i = omega (arith, lose_shorter p (take i es), length-take i es) in
      r ∙ (ap (λ l. get_or l i blank) h.kept.held.things ∙ over_read (lose p (take i es)) es i blank s)

  inside : i < length (events_of ws)
  inside = let l = events_long ws in omega arith

  pub taken_goes : (y : ℕ) → x ≡ true → y ≡ one_if (ordinary e) → y < 2 → Taken p ws (i + 1) m (k + y) out
  taken_goes y c d z =
      record {
        kept = loops.compact_goes decode encode slot_words room_for_events encode_long p ws n i m out b f h.kept blank e r x t c;
        went = went_yes p (events_of ws) i e inside original k y (sym t ∙ c) h.went d;
        short = omega (arith, h.short);
      }

  pub taken_stays : (next : List ℕ) → x ≡ false → Held next (set (events_of out) m (get_or (events_of out) i blank)) → Taken p ws (i + 1) (m + 1) k next
  taken_stays next c q =
      record {
        kept = loops.compact_stays decode encode slot_words room_for_events encode_long p ws n i m out b f h.kept blank e r x t c next (rw (← r) at q);
        went = went_no p (events_of ws) i e inside original k (sym t ∙ c) h.went;
        short = omega (arith, h.short);
      }

-- the row that is written lies at or before the one that is read
pub taken_room : (p : Event → Bool) (ws : List ℕ) (i m k : ℕ) (out : List ℕ) → Taken p ws i m k out → m ≤ i
taken_room p ws i m k out h = loops.lose_room decode encode slot_words room_for_events encode_long blank p ws i h.kept.count

module _ (p : Event → Bool) (ws : List ℕ) (n i m k : ℕ) (out : List ℕ) (a : i ≤ n) (b : n ≤ i) (h : Taken p ws i m k out) where
  pub taken_count : m ≡ length (lose p (take n (events_of ws)))
  taken_count = loops.compact_count decode encode slot_words room_for_events encode_long p ws n i m out a b h.kept

  pub taken_went : k ≡ count ordinary (keep p (take n (events_of ws)))
  taken_went = let e : i ≡ n = omega arith in rw (← e) h.went

  pub taken_held : Held out (over (lose p (take n (events_of ws))) (events_of ws))
  taken_held = loops.compact_held decode encode slot_words room_for_events encode_long p ws n i m out a b h.kept

-- ---- blanks behind them

abbrev pub Blanked : List ℕ → ℕ → ℕ → List ℕ → Type 0
Blanked ws w i out = Held out (lay blank (events_of ws) (take w (events_of ws)) i)

module _ (ws : List ℕ) (w : ℕ) where
  pub clear_none : Whole ws → Blanked ws w w ws
  clear_none h = loops.blank_none decode encode slot_words room_for_events encode_long blank ws w h

  pub clear_one : (i : ℕ) (out next : List ℕ) (e : Event) → w ≤ i → e ≡ blank → Blanked ws w i out → Held next (set (events_of out) i e) → Blanked ws w (i + 1) next
  clear_one i out next e b r h q = loops.blank_one decode encode slot_words room_for_events encode_long blank ws w i out next e b r h q

-- ---- both

module _ (p : Event → Bool) (ws : List ℕ) (n : ℕ) where
  pub remove_room : (k : ℕ) → k ≡ length (lose p (take n (events_of ws))) → k ≤ n
  remove_room k e = loops.lose_room decode encode slot_words room_for_events encode_long blank p ws n e

  pub remove_held :
      (k : ℕ) (mid out : List ℕ) → n ≤ room_for_events → k ≡ length (lose p (take n (events_of ws))) → Held mid (over (lose p (take n (events_of ws))) (events_of ws)) →
      Blanked mid k n out → Held out (lay blank (events_of ws) (lose p (take n (events_of ws))) n)
  remove_held k mid out f e h q = loops.lose_done decode encode slot_words room_for_events encode_long blank p ws n k mid out f e h q
