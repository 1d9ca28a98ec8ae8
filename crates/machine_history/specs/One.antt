-- A run has one history: what `Told` says leaves no other. Assumes nothing.
use Prim.Native.Nat.{ℕ, zero, suc, ◌+◌, ◌-◌, ◌<◌, ◌≤◌}
use Rattle.std.specs.Prelude.{Bool, true, false, cond, ◌&&◌, ◌≡◌, ltb, leb, eqb, get_or}
use Rattle.std.proofs.Math.Path.{refl}
use Rattle.std.proofs.Common.{ap, ◌∙◌, sym, lt-ltb, ltb-true, le-leb, leb-true, eq-eqb, eqb-true}
use mathlib.Core.List.{List, [], ◌∷◌, ◌++◌, map, append-nil}
use Rattle.std.proofs.Math.Nat.{add-zero}
use native.Mathlib.Omega.{arith}
use Rattle.std.proofs.Math.Decide.{dec_lt}
use Rattle.std.proofs.Math.ListN.{length}
use Rattle.std.proofs.lemmas.Bool.{eqb-false}
use Rattle.lists.specs.Tests.{and_left, and_right, and_no, gt_eqb, lt_eqb}
use Rattle.lists.specs.Lists.{keep}
use Rattle.lists.proofs.Lists.{keep_append}
use Rattle.lists.specs.Every.{by_test, both, no_way, or_left, or_right, or_else_lem}
use Rattle.lists.specs.Each.{Each, each_imp, each_map, each_all, each_append}
use Rattle.table_rows.specs.Bytes.{Image}
use Rattle.machine.specs.State.{Event}
use Rattle.machine.specs.Machine.{Call}
use Rattle.machine_history.specs.History.{most_turns, Fate, waits, popped, dropped, Entry, History, new_by, is_taken}
use Rattle.machine_history.specs.History.{is_dropped, open_at, open_in, waits_at, waits_in, pop_takes, reset_drops, turn_from, fate_at}
use Rattle.machine_history.specs.History.{or_else, fate_from, entry_of, entries_from, history_of, Fated, Right, in_order, Told}
use Rattle.machine_history.specs.Marks.{events_of}
use Rattle.machine_history.specs.Accepted.{from_here_lem, own_open}

-- ---- the fate of an event is the one that the first call gives it that ends it

taken_is : (n r : ℕ) (f : Fate) → is_taken n r f ≡ true → popped n r ≡ f
taken_is n r waits t = no_way t
taken_is n r (popped m q) t =
    let y : n ≡ m = sym (eqb-true m n (and_left (eqb m n) (eqb q r) t)) in
    let z : r ≡ q = sym (eqb-true q r (and_right (eqb m n) (eqb q r) t)) in
    rw (y, z)
taken_is n r (dropped m) t = no_way t

dropped_is : (n : ℕ) (f : Fate) → is_dropped n f ≡ true → dropped n ≡ f
dropped_is n waits t = no_way t
dropped_is n (popped m q) t = no_way t
dropped_is n (dropped m) t = let y : n ≡ m = sym (eqb-true m n t) in rw y

-- what waits before a call waits before its first turn, and before the next one, if this one does not take it
open_first : (n : ℕ) (f : Fate) → open_at n f ≡ true → open_in n 0 f ≡ true
open_first n waits o = refl
open_first n (popped m q) o = go (dec_lt n m)
  where
    go : Dec (n < m) → open_in n 0 (popped m q) ≡ true
    go (yes l) = or_left (eqb m n && leb 0 q) (lt-ltb n m l)
    go (no l) = or_right (ltb n m) (both (eq-eqb m n (omega (arith, leb-true n m o))) (le-leb 0 q (omega arith)))
open_first n (dropped m) o = o

open_next : (n r : ℕ) (f : Fate) → open_in n r f ≡ true → is_taken n r f ≡ false → open_in n (suc r) f ≡ true
open_next n r waits o t = refl
open_next n r (popped m q) o t =
    by_test (ltb n m) (λ l. or_left (eqb m n && leb (suc r) q) l) λ l.
    let z = or_else_lem (ltb n m) (eqb m n && leb r q) l o in
    let y = and_left (eqb m n) (leb r q) z in
    let k = leb-true r q (and_right (eqb m n) (leb r q) z) in
    let d = eqb-false q r (rw y at t) in
    or_right (ltb n m) (both y (le-leb (suc r) q (omega (arith, k, d))))
open_next n r (dropped m) o t = o

module _ (img : Image) (cs : List Call) (x : Entry) (right : Right img cs (length cs) x) where
  abbrev e : Event
  e = x.event

  abbrev f : Fate
  f = x.fate

  module _ (n : ℕ) (b : x.by < n) (l : n < length cs) where
    -- the pop's turns
    turn_is : (k r : ℕ) (rest : Fate) → open_in n r f ≡ true → (open_in n (r + k) f ≡ true → rest ≡ f) → or_else (turn_from img cs n r k e) rest ≡ f
    unfolding turn_from waits_in
    turn_is zero r rest o h = h (rw add-zero o)
    turn_is (suc k) r rest o h =
        by_test (pop_takes img cs n r e) (λ t. rw t (taken_is n r f (right.ended.by_pop n r l ∙ both (both (lt-ltb x.by n b) o) t))) λ t.
        rw t
        (turn_is k (suc r) rest (open_next n r f o (right.ended.by_pop n r l ∙ rw (t, and_no (ltb x.by n && open_in n r f)))) λ z.
        let y : r + suc k ≡ suc r + k = omega arith in h (rw y z))

    -- what no turn took and the call did not drop is there after it
    open_after : (g : Fate) → Fated img cs (length cs) x.by e g → is_dropped n g ≡ false → open_in n (suc most_turns) g ≡ true → open_at (suc n) g ≡ true
    open_after waits v d o = refl
    open_after (popped m q) v d o =
        by_test (ltb n m) (λ k. le-leb (suc n) m (ltb-true n m k)) λ k.
        let z = leb-true (suc most_turns) q (and_right (eqb m n) (leb (suc most_turns) q) (or_else_lem (ltb n m) (eqb m n && leb (suc most_turns) q) k o)) in
        absurd (omega (arith, z, v.turn))
    open_after (dropped m) v d o = le-leb (suc n) m (omega (arith, leb-true n m o, eqb-false m n d))

    call_is : (rest : Fate) → open_at n f ≡ true → (open_at (suc n) f ≡ true → rest ≡ f) → or_else (fate_at img cs n e) rest ≡ f
    unfolding fate_at waits_at
    call_is rest o h =
        let d = right.ended.by_reset n l in
        by_test (reset_drops img cs n e) (λ t. rw t (dropped_is n f (d ∙ both (both (lt-ltb x.by n b) o) t))) λ t.
        rw t
        (turn_is (suc most_turns) 0 rest (open_first n f o) λ z.
        h (open_after f right.fated (d ∙ rw (t, and_no (ltb x.by n && open_at n f))) z))

  -- at the end nothing is open but what waits
  open_end : (g : Fate) → Fated img cs (length cs) x.by e g → open_at (length cs) g ≡ true → waits ≡ g
  open_end waits v o = refl
  open_end (popped m q) v o = absurd (omega (arith, leb-true (length cs) m o, v.before))
  open_end (dropped m) v o = absurd (omega (arith, leb-true (length cs) m o, v.before))

  fate_from_lem : (k n : ℕ) → x.by < n → n + k ≡ length cs → open_at n f ≡ true → fate_from img cs n k e ≡ f
  unfolding fate_from
  fate_from_lem zero n b l o = let z : n ≡ length cs = omega arith in open_end f right.fated (rw (← z) o)
  fate_from_lem (suc k) n b l o = call_is n b (omega arith) (fate_from img cs (suc n) k e) o (λ z. fate_from_lem k (suc n) (omega arith) (omega arith) z)

  fate_is : fate_from img cs (suc x.by) (length cs - suc x.by) e ≡ f
  fate_is = fate_from_lem (length cs - suc x.by) (suc x.by) (omega arith) (omega (arith, right.before)) (own_open img cs (length cs) x right)

-- ---- the events, in order of acceptance

abbrev names : ℕ → Entry → Bool
names n x = eqb x.by n

-- nothing that the call at place n accepted stands behind one that a later call accepted
none_named : (n : ℕ) (h : History) → Each (λ x. n < x.by) h → keep (names n) h ≡ []
unfolding keep
none_named n [] e = refl
none_named n (x ∷ h) e = rw (gt_eqb x.by n e.0) (none_named n h e.1)

pub head_is : {A : Type 0} {a b : A} {l m : List A} → a ∷ l ≡ b ∷ m → a ≡ b
head_is e = cc

pub tail_is : {A : Type 0} {a b : A} {l m : List A} → a ∷ l ≡ b ∷ m → l ≡ m
tail_is e = cc

not_empty : {A P : Type 0} {a : A} {l : List A} → [] ≡ a ∷ l → P
not_empty e = absurd (let z : ◌≡◌ {A = ℕ} 0 1 = cc in omega arith)

-- two histories, where each call is named by the same events
abbrev Same : ℕ → History → History → Type 0
Same n h k = (m : ℕ) → m < n → events_of (keep (names m) h) ≡ events_of (keep (names m) k)

named_first : (x : Entry) (h : History) → events_of (keep (names x.by) (x ∷ h)) ≡ x.event ∷ events_of (keep (names x.by) h)
unfolding keep
named_first x h = rw (eq-eqb x.by x.by refl)

later_than : (m : ℕ) (x : Entry) (h : History) (b : ℕ) → m < x.by → in_order b (x ∷ h) ≡ true → events_of (keep (names m) (x ∷ h)) ≡ []
unfolding in_order
later_than m x h b l o =
    ap events_of
    (none_named m (x ∷ h) (l, each_imp (λ y. x.by ≤ y.by) (λ y. m < y.by) (λ y z. omega arith) h (from_here_lem h x.by (and_right (leb b x.by) _ o))))

tails : (n : ℕ) (x y : Entry) (h k : History) → x.by ≡ y.by → Same n (x ∷ h) (y ∷ k) → Same n h k
unfolding keep
tails n x y h k b s m l = go (eqb x.by m) (eqb y.by m) (ap (λ i. eqb i m) b) (s m l)
  where
    go : (t u : Bool) → t ≡ u → events_of (cond t (x ∷ keep (names m) h) (keep (names m) h)) ≡ events_of (cond u (y ∷ keep (names m) k) (keep (names m) k)) →
        events_of (keep (names m) h) ≡ events_of (keep (names m) k)
    go true true q r = tail_is r
    go false false q r = r
    go true false q r = no_way (sym q)
    go false true q r = no_way q

-- in order, by the same calls, and each with its fate: the same history
module _ (n : ℕ) (fate : ℕ → Event → Fate) where
  record Own (x : Entry) : Type 0 where
    before : x.by < n
    fated : x.fate ≡ fate x.by x.event

  same_entry : (v w : Entry) → v.event ≡ w.event → v.by ≡ w.by → Own v → Own w → v ≡ w
  same_entry v w e b x y = go v.event v.by v.fate w.event w.by w.fate e b x.fated y.fated
    where
      go : (c : Event) (i : ℕ) (f : Fate) (d : Event) (j : ℕ) (g : Fate) → c ≡ d → i ≡ j → f ≡ fate i c → g ≡ fate j d →
          ◌≡◌ {A = Entry} (record { event = c; by = i; fate = f }) (record { event = d; by = j; fate = g })
      go c i f d j g p q r s = rw (r, s, p, q)

  one_list : (h k : History) (a b : ℕ) → in_order a h ≡ true → in_order b k ≡ true → Each Own h → Each Own k → Same n h k → h ≡ k
  unfolding in_order keep
  one_list [] [] a b o p x y s = refl
  one_list [] (w ∷ k) a b o p x y s = not_empty (s w.by y.0.before ∙ named_first w k)
  one_list (v ∷ h) [] a b o p x y s = not_empty (sym (s v.by x.0.before) ∙ named_first v h)
  one_list (v ∷ h) (w ∷ k) a b o p x y s =
      go (dec_lt v.by w.by) (dec_lt w.by v.by) λ f.
      one_list h k v.by w.by (and_right (leb a v.by) _ o) (and_right (leb b w.by) _ p) x.1 y.1 (tails n v w h k f s)
    where
      go : Dec (v.by < w.by) → Dec (w.by < v.by) → (v.by ≡ w.by → h ≡ k) → v ∷ h ≡ w ∷ k
      go (yes l) d r = not_empty (sym (sym (named_first v h) ∙ (s v.by x.0.before ∙ later_than v.by w k b l p)))
      go (no l) (yes d) r = not_empty (sym (later_than w.by v h a d o) ∙ (s w.by y.0.before ∙ named_first w k))
      go (no l) (no d) r =
          let f : v.by ≡ w.by = omega arith in
          let e = head_is (sym (named_first v h) ∙ (s v.by x.0.before ∙ (ap (λ i. events_of (keep (names i) (w ∷ k))) f ∙ named_first w k))) in
          rw (same_entry v w e f x.0 y.0, r f)

-- ---- the computed history is such a list

module _ (img : Image) (cs : List Call) where
  abbrev fate_of : ℕ → Event → Fate
  fate_of n e = fate_from img cs (suc n) (length cs - suc n) e

  block_order : (n : ℕ) (es : List Event) (b : ℕ) (rest : History) → b ≤ n → ((c : ℕ) → c ≤ n → in_order c rest ≡ true) → in_order b (map (entry_of img cs n) es ++ rest) ≡ true
  unfolding in_order
  block_order n [] b rest l h = h b l
  block_order n (e ∷ es) b rest l h = both (le-leb b n l) (block_order n es n rest (omega arith) h)

  from_order : (k n b : ℕ) → b ≤ n → in_order b (entries_from img cs n k) ≡ true
  unfolding entries_from in_order
  from_order zero n b l = refl
  from_order (suc k) n b l = block_order n (new_by img cs n) b (entries_from img cs (suc n) k) l (λ c d. from_order k (suc n) c (omega arith))

  from_own : (k n : ℕ) → n + k ≤ length cs → Each (Own (length cs) fate_of) (entries_from img cs n k)
  unfolding entries_from
  from_own zero n l = tt
  from_own (suc k) n l =
      each_append (Own (length cs) fate_of) (map (entry_of img cs n) (new_by img cs n)) (entries_from img cs (suc n) k)
      (each_map (λ e. Unit {0}) (Own (length cs) fate_of) (entry_of img cs n) (λ e u. record { before = omega arith; fated = refl }) (new_by img cs n)
      (each_all (λ e. Unit {0}) (λ e. tt) (new_by img cs n)))
      (from_own k (suc n) (omega arith))

  block_names : (n : ℕ) (es : List Event) → events_of (keep (names n) (map (entry_of img cs n) es)) ≡ es
  unfolding keep
  block_names n [] = refl
  block_names n (e ∷ es) = rw (eq-eqb n n refl) (ap (e ∷◌) (block_names n es))

  block_others : (n m : ℕ) (es : List Event) → n < m → keep (names m) (map (entry_of img cs n) es) ≡ []
  unfolding keep
  block_others n m [] l = refl
  block_others n m (e ∷ es) l = rw (lt_eqb n m l) (block_others n m es l)

  from_names : (k n m : ℕ) → n ≤ m → m < n + k → events_of (keep (names m) (entries_from img cs n k)) ≡ new_by img cs m
  unfolding entries_from
  from_names zero n m l h = absurd (omega arith)
  from_names (suc k) n m l h = go (λ d. from_names k (suc n) m d (omega arith)) (dec_lt n m)
    where
      go : (n < m → events_of (keep (names m) (entries_from img cs (suc n) k)) ≡ new_by img cs m) → Dec (n < m) →
          events_of (keep (names m) (map (entry_of img cs n) (new_by img cs n) ++ entries_from img cs (suc n) k)) ≡ new_by img cs m
      go r (yes d) = rw (keep_append (names m) (map (entry_of img cs n) (new_by img cs n)) (entries_from img cs (suc n) k), block_others n m (new_by img cs n) d) (r d)
      go r (no d) =
          let z : m ≡ n = omega arith in
          let t : keep (names n) (entries_from img cs (suc n) k) ≡ [] = none_named n _ (from_here_lem _ (suc n) (from_order k (suc n) (suc n) (omega arith))) in
          rw (z, keep_append (names n) (map (entry_of img cs n) (new_by img cs n)) (entries_from img cs (suc n) k), t, append-nil (keep (names n) (map (entry_of img cs n) (new_by img cs n))))
          (block_names n (new_by img cs n))

each_of : {A : Type 0} (P : A → Type 0) (l : List A) → ((k : ℕ) (d : A) → k < length l → P (get_or l k d)) → Each P l
each_of P [] h = tt
each_of P (a ∷ l) h = (h 0 a (omega arith), each_of P l (λ k d i. h (suc k) d (omega arith)))

-- "and only one of these holds": what is told of a run is what is computed of it
pub told_is : (img : Image) (cs : List Call) (h : History) → Told img cs h → h ≡ history_of img cs
told_is img cs h t =
    one_list (length cs) (fate_of img cs) h (history_of img cs) 0 0 t.order (from_order img cs (length cs) 0 0 (omega arith))
    (each_imp (Right img cs (length cs)) (Own (length cs) (fate_of img cs)) (λ x r. record { before = r.before; fated = sym (fate_is img cs x r) }) h
    (each_of (Right img cs (length cs)) h t.fate))
    (from_own img cs (length cs) 0 (omega arith)) (λ m l. t.made m l ∙ sym (from_names img cs (length cs) 0 m (omega arith) (omega arith)))

pub one_history : (img : Image) (cs : List Call) (h k : History) → Told img cs h → Told img cs k → h ≡ k
one_history img cs h k x y = told_is img cs h x ∙ sym (told_is img cs k y)

-- the computed history is told of the run, and no other is
pub record TheHistory (img : Image) (cs : List Call) : Type 0 where
  pub told : Told img cs (history_of img cs)
  pub only : (h : History) → Told img cs h → h ≡ history_of img cs
