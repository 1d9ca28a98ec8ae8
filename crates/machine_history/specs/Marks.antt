-- A history changes in two ways: waiting events that pass a test get a fate, and new ones come last. Assumes nothing.
use Rattle.std.specs.Prelude.{ℕ, zero, suc, ◌<◌, ◌≤◌, Bool, cond, ◌&&◌, ◌≡◌, leb, eqb}
use Rattle.std.proofs.Math.Bool.{true, false}
use Rattle.std.proofs.Math.Path.{refl, ap}
use Rattle.std.proofs.Common.{◌∙◌, sym, arith, le-ltb, le-leb, eq-eqb, le_refl}
use mathlib.Core.List.{List, [], ◌∷◌, ◌++◌, map, map-append, append-nil}
use Rattle.lists.specs.Tests.{and_left, and_right, lt_eqb, gt_eqb}
use Rattle.lists.specs.Lists.{keep, lose}
use Rattle.lists.proofs.Lists.{keep_append}
use Rattle.machine.specs.State.{Event}
use Rattle.lists.specs.Every.{by_test, both}
use Rattle.lists.specs.Each.{Each, each_map}
use Rattle.machine_history.specs.History.{Fate, waits, popped, dropped, Entry, History, is_waiting, waits_at, is_taken, taken_in, taken_up_to, in_order}

abbrev pub fated : Entry → Fate → Entry
fated x f = record { event = x.event; by = x.by; fate = f }

abbrev pub events_of : History → List Event
events_of h = map (λ x. x.event) h

-- the events that wait
abbrev pub now_in : History → List Event
now_in h = events_of (keep (λ x. is_waiting x.fate) h)

-- the waiting ones that pass get the fate f
abbrev pub mark : Fate → (Event → Bool) → Entry → Entry
mark f p x = cond (is_waiting x.fate && p x.event) (fated x f) x

unfoldable pub marked : Fate → (Event → Bool) → History → History
marked f p h = map (mark f p) h

-- the call at place n accepts events
abbrev pub entry : ℕ → Event → Entry
entry n e = record { event = e; by = n; fate = waits }

unfoldable pub added : ℕ → List Event → History → History
added n es h = h ++ map (entry n) es

-- a waiting entry has the fate that waits
waiting_is : (x : Entry) → is_waiting x.fate ≡ true → x ≡ fated x waits
waiting_is x e = go x.fate e
  where
    go : (f : Fate) → is_waiting f ≡ true → fated x f ≡ fated x waits
    go waits e = refl
    go (popped n r) e = cc
    go (dropped n) e = cc

module _ (f : Fate) (p : Event → Bool) where
  mark_either : (P : Entry → Type 0) (x : Entry) → (is_waiting x.fate ≡ true → p x.event ≡ true → P (fated x f)) → ((is_waiting x.fate && p x.event) ≡ false → P x) → P (mark f p x)
  mark_either P x h k =
      by_test (is_waiting x.fate && p x.event) (λ e. rw e (h (and_left _ _ e) (and_right (is_waiting x.fate) _ e))) (λ e. rw e (k e))

  pub each_marked :
      (P Q : Entry → Type 0) → ((x : Entry) → P x → (is_waiting x.fate && p x.event) ≡ false → Q x) →
      ((x : Entry) → P x → is_waiting x.fate ≡ true → p x.event ≡ true → Q (fated x f)) → (h : History) → Each P h → Each Q (marked f p h)
  unfolding marked
  each_marked P Q i m h e = each_map P Q (mark f p) (λ x y. mark_either Q x (m x y) (i x y)) h e

  mark_event : (x : Entry) → (mark f p x).event ≡ x.event
  mark_event x = mark_either (λ y. y.event ≡ x.event) x (λ w y. refl) (λ z. refl)

  mark_by : (x : Entry) → (mark f p x).by ≡ x.by
  mark_by x = mark_either (λ y. y.by ≡ x.by) x (λ w y. refl) (λ z. refl)

  -- a test that cannot tell the new fate from waiting keeps the same events
  pub mark_blind : (q : Entry → Bool) → ((x : Entry) → q (fated x f) ≡ q (fated x waits)) → (h : History) → events_of (keep q (marked f p h)) ≡ events_of (keep q h)
  unfolding marked keep
  mark_blind q b [] = refl
  mark_blind q b (x ∷ h) =
      put (q (mark f p x)) (q x) (mark f p x) x _ _ (mark_either (λ y. q y ≡ q x) x (λ w y. b x ∙ ap q (sym (waiting_is x w))) (λ z. refl)) (mark_event x) (mark_blind q b h)
    where
      put : (t u : Bool) (y z : Entry) (l m : History) → t ≡ u → y.event ≡ z.event → events_of l ≡ events_of m → events_of (cond t (y ∷ l) l) ≡ events_of (cond u (z ∷ m) m)
      put true u y z l m e g r = rw (← e, g, r)
      put false u y z l m e g r = rw (← e) r

  -- what waits loses those that pass
  pub mark_now : is_waiting f ≡ false → (h : History) → now_in (marked f p h) ≡ lose p (now_in h)
  unfolding marked keep lose
  mark_now w [] = refl
  mark_now w (x ∷ h) = go x.fate (p x.event) refl (mark_now w h)
    where
      go : (g : Fate) (b : Bool) → p x.event ≡ b → now_in (marked f p h) ≡ lose p (now_in h) →
          now_in (cond (is_waiting g && b) (fated x f) (fated x g) ∷ marked f p h) ≡ lose p (now_in (fated x g ∷ h))
      go waits true e r = rw (w, e) r
      go waits false e r = rw (e, r)
      go (popped n q) b e r = r
      go (dropped n) b e r = r

  -- and those that have the new fate and did not before are what passed
  pub mark_new :
      (q : Fate → Bool) → q f ≡ true → q waits ≡ false → (h : History) → Each (λ x. q x.fate ≡ false) h → events_of (keep (λ x. q x.fate) (marked f p h)) ≡ keep p (now_in h)
  unfolding marked keep
  mark_new q y n [] e = refl
  mark_new q y n (x ∷ h) e = go x.fate (p x.event) refl e.0 (mark_new q y n h e.1)
    where
      go : (g : Fate) (b : Bool) → p x.event ≡ b → q g ≡ false → events_of (keep (λ x. q x.fate) (marked f p h)) ≡ keep p (now_in h) →
          events_of (keep (λ x. q x.fate) (cond (is_waiting g && b) (fated x f) (fated x g) ∷ marked f p h)) ≡ keep p (now_in (fated x g ∷ h))
      go waits true e z r = rw (y, e, r)
      go waits false e z r = rw (e, n) r
      go (popped m k) b e z r = rw z r
      go (dropped m) b e z r = rw z r

  -- the order of acceptance is as it was
  pub order_marked : (h : History) (n : ℕ) → in_order n (marked f p h) ≡ in_order n h
  unfolding in_order marked
  order_marked [] n = refl
  order_marked (x ∷ h) n = rw (mark_by x, order_marked h x.by)

-- ---- new ones

new_blind : (n : ℕ) (q : Entry → Bool) → ((e : Event) → q (entry n e) ≡ false) → (es : List Event) → keep q (map (entry n) es) ≡ []
unfolding keep
new_blind n q b [] = refl
new_blind n q b (e ∷ es) = rw (b e) (new_blind n q b es)

new_now : (n : ℕ) (es : List Event) → now_in (map (entry n) es) ≡ es
unfolding keep
new_now n [] = refl
new_now n (e ∷ es) = ap (e ∷◌) (new_now n es)

module _ (n : ℕ) (es : List Event) (h : History) where
  pub add_blind : (q : Entry → Bool) → ((e : Event) → q (entry n e) ≡ false) → events_of (keep q (added n es h)) ≡ events_of (keep q h)
  unfolding added
  add_blind q b = rw (keep_append q h (map (entry n) es), new_blind n q b es, append-nil (keep q h))

  pub add_now : now_in (added n es h) ≡ now_in h ++ es
  unfolding added
  add_now = rw (keep_append (λ x. is_waiting x.fate) h (map (entry n) es), map-append) (ap (now_in h ++◌) (new_now n es))

-- what the call at place n accepted, and nothing before it, names it
names_new : (n : ℕ) (es : List Event) → events_of (keep (λ x. eqb x.by n) (map (entry n) es)) ≡ es
unfolding keep
names_new n [] = refl
names_new n (e ∷ es) = rw (eq-eqb n n refl) (ap (e ∷◌) (names_new n es))

pub names_none : (n : ℕ) (h : History) → Each (λ x. x.by < n) h → keep (λ x. eqb x.by n) h ≡ []
unfolding keep
names_none n [] b = refl
names_none n (x ∷ h) b = rw (lt_eqb x.by n b.0) (names_none n h b.1)

pub add_names : (n : ℕ) (es : List Event) (h : History) → Each (λ x. x.by < n) h → events_of (keep (λ x. eqb x.by n) (added n es h)) ≡ es
unfolding added
add_names n es h b = rw (keep_append (λ x. eqb x.by n) h (map (entry n) es), names_none n h b) (names_new n es)

order_new : (n : ℕ) (es : List Event) (m : ℕ) → m ≤ n → in_order m (map (entry n) es) ≡ true
unfolding in_order
order_new n [] m l = refl
order_new n (e ∷ es) m l = both (le-leb m n l) (order_new n es n (le_refl n))

pub order_added : (n : ℕ) (es : List Event) (h : History) (m : ℕ) → m ≤ n → Each (λ x. x.by < n) h → in_order m h ≡ true → in_order m (added n es h) ≡ true
unfolding in_order added
order_added n es [] m l b o = order_new n es m l
order_added n es (x ∷ h) m l b o = both (and_left (leb m x.by) _ o) (order_added n es h x.by (omega (arith, b.0)) b.1 (and_right (leb m x.by) _ o))

-- ---- what was told before the call at place n stays told

-- a test that sees nothing of the calls from place n on
pub record Blind (n : ℕ) (q : Entry → Bool) : Type 0 where
  pub new : (e : Event) (m : ℕ) → n ≤ m → q (entry m e) ≡ false
  pub pop : (x : Entry) (m r : ℕ) → n ≤ m → q (fated x (popped m r)) ≡ q (fated x waits)
  pub drop : (x : Entry) (m : ℕ) → n ≤ m → q (fated x (dropped m)) ≡ q (fated x waits)

pub record Later (n : ℕ) (h k : History) : Type 0 where
  pub told : (q : Entry → Bool) → Blind n q → events_of (keep q k) ≡ events_of (keep q h)

pub later_same : (n : ℕ) (h : History) → Later n h h
later_same n h = record { told = λ q b. refl }

pub later_then : {n : ℕ} {h k l : History} → Later n h k → Later n k l → Later n h l
later_then a b = record { told = λ q t. b.told q t ∙ a.told q t }

module _ (n : ℕ) where
  pub later_popped : (r : ℕ) (p : Event → Bool) (h : History) → Later n h (marked (popped n r) p h)
  later_popped r p h = record { told = λ q b. mark_blind (popped n r) p q (λ x. b.pop x n r (le_refl n)) h }

  pub later_dropped : (p : Event → Bool) (h : History) → Later n h (marked (dropped n) p h)
  later_dropped p h = record { told = λ q b. mark_blind (dropped n) p q (λ x. b.drop x n (le_refl n)) h }

  pub later_added : (es : List Event) (h : History) → Later n h (added n es h)
  later_added es h = record { told = λ q b. add_blind n es h q (λ e. b.new e n (le_refl n)) }

-- what waits at a moment is such a test
pub waits_blind : (m n : ℕ) → m ≤ n → Blind n (waits_at m)
unfolding waits_at
waits_blind m n l =
    record {
      new = λ e k h. simp (le-ltb k m (omega arith));
      pop = λ x k r h. rw (le-leb m k (omega arith));
      drop = λ x k h. rw (le-leb m k (omega arith));
    }

-- so is what an earlier call accepted
pub names_blind : (m n : ℕ) → m < n → Blind n (λ x. eqb x.by m)
names_blind m n l = record { new = λ e k h. gt_eqb k m (omega arith); pop = λ x k r h. refl; drop = λ x k h. refl }

-- and so is what an earlier pop took
pub taken_blind : (m r n : ℕ) → m < n → Blind n (λ x. is_taken m r x.fate)
taken_blind m r n l = record { new = λ e k h. refl; pop = λ x k q h. rw (gt_eqb k m (omega arith)); drop = λ x k h. refl }

pub taken_later : (m n : ℕ) (h k : History) → m < n → Later n h k → (r : ℕ) → taken_up_to m r k ≡ taken_up_to m r h
unfolding taken_up_to taken_in
taken_later m n h k l t zero = refl
taken_later m n h k l t (suc r) = rw (taken_later m n h k l t r, t.told (λ x. is_taken m r x.fate) (taken_blind m r n l))
