-- What is gathered, one event at a time, is what the machine answers. Assumes nothing.
use mathlib.Core.Bool.{Bool, true, false, cond, ◌||◌}
use mathlib.Core.Path.{◌≡◌, refl, sym, ap, ◌∙◌}
use mathlib.Core.List.{List, [], ◌∷◌, ◌++◌, append-nil, append_assoc}
use Prim.Native.Nat.{ℕ, ◌+◌, ◌-◌, ◌<◌, ◌≤◌}
use native.Mathlib.Omega.{arith}
use native.Mathlib.Numerals.{add-one}
use lib.ListN.{length, get_or, set, take, drop, length-set, length-take, length-append}
use lib.Seq.{take-suc-set, drop-set-lt, drop-drop}
use lib.Dec.{eqb}
use Rattle.std.specs.List.{list_any}
use Rattle.std.proofs.lemmas.Bool.Decides.{nat_tests}
use borrow.Author.Tests.{eq-eqb, ne_eqb}
use Rattle.lists.specs.Lists.{any, keep, foldl, any_append}
use Rattle.lists.proofs.Lists.{keep_suc_yes, keep_suc_no, keep_shorter}
use Rattle.table_rows.specs.Rows.{none}
use Rattle.tags.specs.Tags.{Tag}
use Rattle.key_set.specs.Sets.{union_of, no_keys, word_count}
use Rattle.machine.specs.State.{Event, Scope, ordinary}
use Rattle.machine.specs.Heads.{Ready, add_action, held_at, ready_of}
use Rattle.state_events.specs.Slots.{blank}
use Rattle.call_pop_ready.specs.declared.Gathered.{Gathered}
use Rattle.call_pop_ready.specs.Gathering.{Gathering, nothing_yet, added_to, added_by, held_too, is_new, count_after, keys_after, Grown}

-- ---- folding at the end

module _ {A B : Type 0} (f : B → A → B) where
  pub foldl_append : (b : B) (x y : List A) → foldl f b (x ++ y) ≡ foldl f (foldl f b x) y
  unfolding foldl
  foldl_append b [] y = refl
  foldl_append b (a ∷ x) y = foldl_append (f b a) x y

-- ---- the machine's answer is what is gathered

or_step : (p : Event → Bool) (es : List Event) (e : Event) → any p (es ++ (e ∷ [])) ≡ (any p es || p e)
unfolding any
or_step p es e = any_append p es (e ∷ []) ∙ ap (λ b. any p es || b) (no (p e))
  where
    no : (b : Bool) → (b || false) ≡ b
    no true = refl
    no false = refl

abbrev untagged : Ready → Gathering
untagged r = record { terminal = r.terminal; work = r.work; network = r.network; held = r.held; reactions = r.reactions; actions = r.actions }

one_more : (ss : List Scope) (t : Tag) (es : List Event) (e : Event) → untagged (ready_of ss t (es ++ (e ∷ []))) ≡ added_by ss (untagged (ready_of ss t es)) e
unfolding ready_of added_to foldl
one_more ss t es e =
    rw (
      or_step (λ x. x.terminal) es e,
      or_step ordinary es e,
      or_step (λ x. x.network) es e,
      or_step (λ x. held_at ss x.queue x.tag) es e,
      foldl_append (λ ws x. union_of ws x.reactions) (no_keys word_count) es (e ∷ []),
      foldl_append add_action [] es (e ∷ []),
    )

-- some events more
pub gathered : (ss : List Scope) (t : Tag) (es more : List Event) → foldl (added_by ss) (untagged (ready_of ss t es)) more ≡ untagged (ready_of ss t (es ++ more))
unfolding foldl
gathered ss t es [] = rw append-nil
gathered ss t es (e ∷ more) = rw (← one_more ss t es e) (gathered ss t (es ++ (e ∷ [])) more ∙ rw append_assoc)

pub ready_nothing : (ss : List Scope) (t : Tag) → untagged (ready_of ss t []) ≡ nothing_yet
unfolding ready_of any foldl
ready_nothing ss t = refl

-- what is held back too, by the flag as it then is
pub held_too_lem : (held : Bool) (g : Gathered) {b : Bool} → b ≡ (g.held || held) →
    record { terminal = g.terminal; work = g.work; network = g.network; held = b; reactions = g.reactions; actions = g.actions } ≡ held_too held g
held_too_lem held g e = rw e

-- a key that is new, or none
module _ (keys : List ℕ) (n a : ℕ) where
  pub key_none : a ≡ none → (n ≡ count_after keys n a) × (keys ≡ keys_after keys n a)
  key_none e = (rw (eq-eqb _ _ e), rw (eq-eqb _ _ e))

  pub key_there : (a ≡ none → ⊥) → any (eqb a) (take n keys) ≡ true → (n ≡ count_after keys n a) × (keys ≡ keys_after keys n a)
  key_there e h = (rw (ne_eqb _ _ e, h), rw (ne_eqb _ _ e, h))

  pub key_new : (a ≡ none → ⊥) → any (eqb a) (take n keys) ≡ false → (n + 1 ≡ count_after keys n a) × (set keys n a ≡ keys_after keys n a)
  key_new e h = (rw (ne_eqb _ _ e, h), rw (ne_eqb _ _ e, h))

-- ---- looking a key up

eqb_sym : (a b : ℕ) → eqb a b ≡ eqb b a
eqb_sym a b = grind (arith, nat_tests)

-- the library's search is the machine's
pub contains_any : (a : ℕ) (l : List ℕ) → list_any (λ b. eqb b a) l ≡ any (eqb a) l
unfolding any
contains_any a [] = refl
contains_any a (b ∷ l) = rw (eqb_sym b a, contains_any a l)

-- ---- the keys after one event

count_near : (keys : List ℕ) (n a : ℕ) → count_after keys n a ≤ n + 1
count_near keys n a = go (is_new (take n keys) a)
  where
    go : (b : Bool) → cond b (n + 1) n ≤ n + 1
    go true = omega arith
    go false = omega arith

pub grown_none : (n : ℕ) (keys : List ℕ) → Grown n n keys keys
grown_none n keys = record { more = omega arith; long = refl; behind = refl }

pub grown_then : {n m k : ℕ} {a b c : List ℕ} → Grown n m a b → Grown m k b c → Grown n k a c
grown_then {n} {m} {k} {a} {b} {c} w v =
    let e : k ≡ m + (k - m) = omega (arith, v.more) in
    let s : drop k b ≡ drop k a = rw (e, ← drop-drop (k - m) m b, ← drop-drop (k - m) m a, w.behind) in
    record { more = omega (arith, w.more, v.more); long = v.long ∙ w.long; behind = v.behind ∙ s }

keys_grown : (keys : List ℕ) (n a : ℕ) → Grown n (count_after keys n a) keys (keys_after keys n a)
keys_grown keys n a = go (is_new (take n keys) a)
  where
    go : (b : Bool) → Grown n (cond b (n + 1) n) keys (cond b (set keys n a) keys)
    go true = record { more = omega arith; long = length-set keys n a; behind = drop-set-lt (n + 1) keys n a (omega arith) }
    go false = grown_none n keys

keys_added : (keys : List ℕ) (n : ℕ) (e : Event) → n < length keys → take (count_after keys n e.action) (keys_after keys n e.action) ≡ add_action (take n keys) e
unfolding add_action
keys_added keys n e h = go (eqb e.action none || any (eqb e.action) (take n keys))
  where
    go : (b : Bool) → take (cond (cond b false true) (n + 1) n) (cond (cond b false true) (set keys n e.action) keys) ≡ cond b (take n keys) (take n keys ++ (e.action ∷ []))
    go true = refl
    go false = rw add-one (take-suc-set keys n e.action h)

module _ (keys out : List ℕ) (g : Gathering) (n m : ℕ) (e : Event) (h : n < length keys) (a : m ≡ count_after keys n e.action) (b : out ≡ keys_after keys n e.action) where
  pub added :
      {t w k : Bool} {ws : List ℕ} → g.actions ≡ take n keys → t ≡ (g.terminal || e.terminal) → w ≡ (g.work || ordinary e) → k ≡ (g.network || e.network) →
      ws ≡ union_of g.reactions e.reactions →
      (record { terminal = t; work = w; network = k; held = g.held; reactions = ws; actions = take m out } ≡ added_to g e) × ((m ≤ n + 1) × Grown n m keys out)
  unfolding added_to
  added l p q r s =
      (rw (p, q, r, s, a, b, l, keys_added keys n e h), (rw a (count_near keys n e.action), rw (a, b) (keys_grown keys n e.action)))

-- ---- the loop's state: what was gathered of the first i events, and how many keys at most

pub record Going (p : Event → Bool) (es : List Event) (start : Gathering) (first i : ℕ) (now : Gathering) (keys : ℕ) : Type 0 where
  pub folds : now ≡ foldl added_to start (keep p (take i es))
  pub near : keys ≤ first + length (keep p (take i es))

pub going_none : (p : Event → Bool) (es : List Event) (g : Gathering) (k : ℕ) → Going p es g k 0 g k
unfolding keep foldl
going_none p es g k = record { folds = refl; near = omega arith }

module _ (p : Event → Bool) (es : List Event) (start : Gathering) (first i : ℕ) (g : Gathering) (k : ℕ) (h : i < length es) (w : Going p es start first i g k)
    (e : Event) (r : e ≡ get_or es i blank) (x : Bool) (t : x ≡ p e) where
  pub going_yes : (after : Gathering) (m : ℕ) → x ≡ true → after ≡ added_to g e → m ≤ k + 1 → Going p es start first (i + 1) after m
  unfolding foldl
  going_yes after m y a b =
      let q : p (get_or es i blank) ≡ true = rw (← r) (sym t ∙ y) in
      let s : keep p (take (i + 1) es) ≡ keep p (take i es) ++ (e ∷ []) = rw (keep_suc_yes p es i blank h q, ← r) in
      record {
        folds = a ∙ rw (s, foldl_append added_to start (keep p (take i es)) (e ∷ []), ← w.folds);
        near = rw (s, length-append) (omega (arith, w.near));
      }

  pub going_no : x ≡ false → Going p es start first (i + 1) g k
  going_no y =
      let q : p (get_or es i blank) ≡ false = rw (← r) (sym t ∙ y) in
      let s : keep p (take (i + 1) es) ≡ keep p (take i es) = keep_suc_no p es i blank h q in
      record { folds = rw s w.folds; near = rw s w.near }

-- no more keys than events
pub going_room : (p : Event → Bool) (es : List Event) (start : Gathering) (first i : ℕ) (g : Gathering) (k : ℕ) → Going p es start first i g k → k ≤ first + i
going_room p es start first i g k w = omega (arith, w.near, keep_shorter p (take i es), length-take i es)
