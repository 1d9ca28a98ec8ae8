-- Marking scopes one at a time, the new modes as steps 1 and 2 have them, and the code's plan as the machine's. Assumes nothing.
use mathlib.Core.Bool.{Bool, true, false, cond, ◌&&◌}
use mathlib.Core.Logic.{◌⊎◌, inl, inr}
use mathlib.Core.Path.{◌≡◌, refl, ap, ◌∙◌, sym}
use mathlib.Core.List.{List, [], ◌∷◌, ◌++◌, map}
use Prim.Native.Nat.{ℕ, zero, suc, ◌+◌, ◌≤◌, ◌<◌}
use native.Mathlib.Nat.{le_refl}
use native.Mathlib.Numerals.{add-one}
use native.Mathlib.Omega.{arith}
use lib.Dec.{ltb}
use lib.ListN.{length, get_or, set, take, replicate, length-map, length-set, length-take}
use lib.Seq.{get_or-take, get_or-set_same, get_or-set_other, ext_get_or}
use borrow.Author.Tests.{lt-ltb, le-ltb, eq-eqb, ne_eqb}
use Rattle.lists.specs.Tests.{same?, below?, and_no, flag_no, flag_yes}
use Rattle.lists.specs.Lists.{from}
use Rattle.lists.specs.Steps.{read_in, read_past}
use Rattle.lists.specs.Every.{length_from}
use Rattle.table_rows.specs.Bytes.{Image}
use Rattle.table_rows.specs.Rows.{none, root_scope, initial_mode, mode_scope}
use Rattle.table_rows.specs.Lineage.{under}
use Rattle.table.specs.Check.{is_table}
use Rattle.tags.specs.Views.{of_global}
use Rattle.key_set.specs.Sets.{has, insert_key, word_count, no_keys}
use Rattle.key_set.proofs.Laws.{has_empty, has_insert_same, has_insert_other, length_insert}
use Rattle.state_scopes.specs.Scopes.{Scope, most_scopes, blank}
use Rattle.state_room.specs.Padded.{padded, padded_none, padded_more, padded_take, padded_length}
use Rattle.machine.specs.Table.{scopes, reactors}
use Rattle.machine.specs.State.{State}
use Rattle.machine.specs.Transition.{reset_modes, step1, prepared, plan_of, inside_of}
use Rattle.call_transition_plan.specs.Plans.{plan_in, Inner, Marks, mode_after, new_modes, Planned}
use Rattle.state_room.specs.PartRows.{most_reactors}
use Rattle.state_room.specs.Holds.{most_reactors_lem}
use Rattle.call_transition_plan.specs.declared.Plan.{Plan}
use Rattle.call_transition_plan.specs.declared.Request.{Request}

-- ---- lists by their numbers

module _ {A : Type 0} (f : ℕ → A) where
  get_or_map_from : (n k i : ℕ) (d : A) → i < n → get_or (map f (from k n)) i d ≡ f (k + i)
  unfolding from
  get_or_map_from zero k i d h = absurd (omega arith)
  get_or_map_from (suc n) k zero d h = ap f (omega arith)
  get_or_map_from (suc n) k (suc i) d h = get_or_map_from n (suc k) i d (omega arith) ∙ ap f (omega arith)

  pub map_at : (n i : ℕ) (d : A) → i < n → get_or (map f (from 0 n)) i d ≡ f i
  map_at n i d h = get_or_map_from n 0 i d h ∙ ap f (omega arith)

  pub map_long : (n : ℕ) → length (map f (from 0 n)) ≡ n
  map_long n = rw (length-map, length_from)

  more : (n k : ℕ) → map f (from k (suc n)) ≡ map f (from k n) ++ (f (k + n) ∷ [])
  unfolding from
  more zero k = ap (λ x. f x ∷ []) (omega arith)
  more (suc n) k = ap (f k ∷◌) (more n (suc k) ∙ ap (λ x. map f (from (suc k) n) ++ (f x ∷ [])) (omega arith))

  pub map_more : (n : ℕ) → map f (from 0 (n + 1)) ≡ map f (from 0 n) ++ (f n ∷ [])
  map_more n = rw add-one (more n 0 ∙ ap (λ x. map f (from 0 n) ++ (f x ∷ [])) (omega arith))

pub map_same : {A : Type 0} (f g : ℕ → A) (n : ℕ) (d : A) → ((i : ℕ) → i < n → f i ≡ g i) → map f (from 0 n) ≡ map g (from 0 n)
map_same f g n d h =
    ext_get_or d (map f (from 0 n)) (map g (from 0 n)) (map_long f n ∙ sym (map_long g n))
    λ i l. let k : i < n = rw (map_long f n) at l in map_at f n i d k ∙ h i k ∙ sym (map_at g n i d k)

-- ---- marking

ltb_other : (i j : ℕ) → (j ≡ i → ⊥) → ltb j (i + 1) ≡ ltb j i
ltb_other i j n = go (below? j i)
  where
    go : (j < i) ⊎ (i ≤ j) → ltb j (i + 1) ≡ ltb j i
    go (inl h) = lt-ltb j (i + 1) (omega arith) ∙ sym (lt-ltb j i h)
    go (inr h) = le-ltb j (i + 1) (omega arith) ∙ sym (le-ltb j i h)

module _ (test : ℕ → Bool) where
  pub marks_none : Marks test 0 (no_keys word_count)
  marks_none = record { long = refl; is = λ i. has_empty word_count i ∙ sym (rw (le-ltb i 0 (omega arith))) }

  pub marks_never : (n : ℕ) → ((i : ℕ) → test i ≡ false) → Marks test n (no_keys word_count)
  marks_never n h = record { long = refl; is = λ i. has_empty word_count i ∙ sym (rw (h i) (and_no (ltb i n))) }

  pub marks_more : (i : ℕ) (ws next : List ℕ) (b : Bool) → i < most_scopes → Marks test i ws → b ≡ test i → next ≡ cond b (insert_key ws i) ws → Marks test (i + 1) next
  marks_more i ws next b l m e f = go b e f
    where
      go : (b : Bool) → b ≡ test i → next ≡ cond b (insert_key ws i) ws → Marks test (i + 1) next
      go true e f =
          record {
            long = rw f (length_insert ws i ∙ m.long);
            is = λ j. rw f (put j (same? j i));
          }
        where
          put : (j : ℕ) → (j ≡ i) ⊎ (j ≡ i → ⊥) → has (insert_key ws i) j ≡ (ltb j (i + 1) && test j)
          put j (inl q) = rw (q, ← e, lt-ltb i (i + 1) (omega arith)) (has_insert_same ws i (rw m.long (omega arith)))
          put j (inr q) = has_insert_other ws i j q ∙ m.is j ∙ sym (rw (ltb_other i j q))
      go false e f = record { long = rw f m.long; is = λ j. rw f (put j (same? j i)) }
        where
          put : (j : ℕ) → (j ≡ i) ⊎ (j ≡ i → ⊥) → has ws j ≡ (ltb j (i + 1) && test j)
          put j (inl q) = rw (q, ← e, and_no) (m.is i ∙ rw (le-ltb i i (le_refl i)))
          put j (inr q) = m.is j ∙ sym (rw (ltb_other i j q))

  pub marks_all : (i n : ℕ) (ws : List ℕ) → i ≤ n → n ≤ i → Marks test i ws → Marks test n ws
  marks_all i n ws a b m = let e : i ≡ n = omega arith in rw (← e) m

  module _ (n : ℕ) (ws : List ℕ) (m : Marks test n ws) where
    -- of the first n the set says the test
    pub marks_in : (i : ℕ) → i < n → has ws i ≡ test i
    marks_in i h = m.is i ∙ rw (lt-ltb i n h)

    pub marks_map : map (has ws) (from 0 n) ≡ map test (from 0 n)
    marks_map = map_same (has ws) test n false marks_in

    -- and of any number what the list of marks says
    pub marks_get : (q : ℕ) → has ws q ≡ get_or (map test (from 0 n)) q false
    marks_get q = go (below? q n)
      where
        go : (q < n) ⊎ (n ≤ q) → has ws q ≡ get_or (map test (from 0 n)) q false
        go (inl h) = marks_in q h ∙ sym (map_at test n q false h)
        go (inr h) = m.is q ∙ rw (le-ltb q n h) (read_past (map test (from 0 n)) q false (rw (map_long test n) h))

-- a part of a scope, read by its number
pub map_get : {B : Type 0} (f : Scope → B) (l : List Scope) (k : ℕ) → get_or (map f l) k (f blank) ≡ f (get_or l k blank)
map_get f [] k = refl
map_get f (x ∷ l) zero = refl
map_get f (x ∷ l) (suc k) = map_get f l k

-- a row's key, as the code reads it
pub row_has : (ws : List ℕ) {x y : ℕ} {b v : Bool} → x ≡ y → b ≡ has ws x → b ≡ v → has ws y ≡ v
row_has ws e f g = rw (← e) (sym f ∙ g)

-- ---- modes

module _ (img : Image) (modes : List ℕ) (q : Request) where
  abbrev filled : ℕ → List ℕ
  filled i = padded 0 most_reactors (map (mode_after img modes q) (from 0 i))

  pub filled_none : replicate most_reactors 0 ≡ filled 0
  unfolding from
  filled_none = sym (padded_none 0 most_reactors)

  pub filled_more : (i m : ℕ) {out : List ℕ} → out ≡ filled i → m ≡ mode_after img modes q i → set out i m ≡ filled (i + 1)
  filled_more i m e f =
      rw (e, f, map_more)
      (let r = padded_more 0 most_reactors (map (mode_after img modes q) (from 0 i)) (mode_after img modes q i) in rw (map_long (mode_after img modes q) i) at r)

  -- reactor by reactor
  module _ (r : ℕ) where
    abbrev here : ℕ
    here = mode_after img modes q r

    pub mode_asked : r ≡ q.reactor → q.mode ≡ here
    unfolding mode_after
    mode_asked h = sym (rw (eq-eqb _ _ h))

    module _ (n : r ≡ q.reactor → ⊥) where
      pub mode_kept : {m : ℕ} → m ≡ get_or modes r 0 → q.reset ≡ false → m ≡ here
      unfolding mode_after
      mode_kept e h = e ∙ sym (simp (ne_eqb _ _ n, h))

      module _ (h : q.reset ≡ true) {t a : ℕ} (e : t ≡ mode_scope img q.mode) (f : a ≡ root_scope img r) where
        pub mode_initial : {b : Bool} {m : ℕ} → b ≡ under img t a → b ≡ true → m ≡ initial_mode img r → m ≡ here
        unfolding mode_after
        mode_initial u v w = w ∙ sym (simp (ne_eqb _ _ n, h, ← e, ← f, ← u, v))

        pub mode_outside : {b : Bool} {m : ℕ} → b ≡ under img t a → b ≡ false → m ≡ get_or modes r 0 → m ≡ here
        unfolding mode_after
        mode_outside u v w = w ∙ sym (simp (ne_eqb _ _ n, h, ← e, ← f, ← u, v))

  module _ (n : ℕ) (long : n ≤ length modes) (asked : q.reactor < n) (count : n ≡ reactors img) where
    abbrev target : ℕ
    target = mode_scope img q.mode

    taken_long : length (take n modes) ≡ n
    taken_long = length-take n modes ∙ omega arith

    -- what step 1 leaves
    abbrev first : Bool → List ℕ
    first b = cond b (reset_modes img target (take n modes)) (take n modes)

    first_long : (b : Bool) → length (first b) ≡ n
    unfolding reset_modes
    first_long true = map_long _ (reactors img) ∙ sym count
    first_long false = taken_long

    taken_at : (i : ℕ) → i < n → get_or (take n modes) i 0 ≡ get_or modes i 0
    taken_at i h = get_or-take n modes i 0 h

    first_at : (b : Bool) (i : ℕ) → i < n → get_or (first b) i 0 ≡ cond (b && under img target (root_scope img i)) (initial_mode img i) (get_or modes i 0)
    unfolding reset_modes
    first_at true i h =
        map_at _ (reactors img) i 0 (rw (← count) h) ∙
        ap (cond (under img target (root_scope img i)) (initial_mode img i)) (read_in (take n modes) i none 0 (rw taken_long h) ∙ taken_at i h)
    first_at false i h = taken_at i h

    pub modes_are : map (mode_after img modes q) (from 0 n) ≡ new_modes img (take n modes) q
    unfolding new_modes mode_after
    modes_are =
        ext_get_or 0 _ _ (map_long (mode_after img modes q) n ∙ sym (length-set (first q.reset) q.reactor q.mode ∙ first_long q.reset))
        λ i l. let k : i < n = rw (map_long (mode_after img modes q) n) at l in map_at (mode_after img modes q) n i 0 k ∙ put i k (same? i q.reactor)
      where
        put : (i : ℕ) → i < n → (i ≡ q.reactor) ⊎ (i ≡ q.reactor → ⊥) → mode_after img modes q i ≡ get_or (set (first q.reset) q.reactor q.mode) i 0
        put i h (inl e) = rw (e, eq-eqb q.reactor q.reactor refl) (sym (get_or-set_same (first q.reset) q.reactor q.mode 0 (rw (first_long q.reset) asked)))
        put i h (inr e) = rw (ne_eqb i q.reactor e) (sym (get_or-set_other (first q.reset) q.reactor i q.mode 0 e ∙ first_at q.reset i h))

  -- the plan's parts by the modes that the code filled in
  module _ (table : is_table img ≡ true) (long : length modes ≡ most_reactors) (asked : q.reactor < reactors img) (n : ℕ) (out : List ℕ) (e : n ≡ reactors img) (f : out ≡ filled n) where
    room : n ≤ most_reactors
    room = rw e (most_reactors_lem img table)

    filled_are : map (mode_after img modes q) (from 0 n) ≡ new_modes img (take (reactors img) modes) q
    filled_are = rw (← e) (modes_are n (rw long room) (rw e asked) e)

    pub filled_new : out ≡ padded 0 most_reactors (new_modes img (take (reactors img) modes) q)
    filled_new = rw (← filled_are) f

    pub filled_take : take n out ≡ new_modes img (take (reactors img) modes) q
    filled_take =
        let l : List ℕ = map (mode_after img modes q) (from 0 n) in
        let k : length l ≡ n = map_long (mode_after img modes q) n in
        let t = padded_take 0 most_reactors l (rw k room) in
        rw f ((rw k at t) ∙ filled_are)

    pub filled_long : n ≤ length out
    filled_long = rw (f, padded_length) room

  -- ---- the plan

  pub prepared_modes : (s : State) → (prepared img q.reactor q.mode q.reset s).modes ≡ new_modes img s.modes q
  unfolding prepared step1 new_modes
  prepared_modes s = go q.reset
    where
      go : (b : Bool) → set (cond b (step1 img (mode_scope img q.mode) (inside_of img b (mode_scope img q.mode)) s) s).modes q.reactor q.mode ≡
          set (cond b (reset_modes img (mode_scope img q.mode) s.modes) s.modes) q.reactor q.mode
      go true = refl
      go false = refl

  pub prepared_long : (s : State) → length s.modes ≡ reactors img → length (prepared img q.reactor q.mode q.reset s).modes ≡ reactors img
  unfolding new_modes reset_modes
  prepared_long s e = rw (prepared_modes s, length-set) (go q.reset)
    where
      go : (b : Bool) → length (cond b (reset_modes img (mode_scope img q.mode) s.modes) s.modes) ≡ reactors img
      go true = map_long _ (reactors img)
      go false = e

  module _ (p : Plan) (h : Planned img modes q p) where
    pub planned_inside : (i : ℕ) → has p.inside.words i ≡ get_or (inside_of img q.reset (mode_scope img q.mode)) i false
    planned_inside i = marks_get _ (scopes img) p.inside.words h.inside i

    pub planned_inner : Inner img p
    planned_inner i = planned_inside i ∙ ap (λ l. get_or l i false) (sym (marks_map _ (scopes img) p.inside.words h.inside))

    -- the machine's plan, where the machine's modes are those of the array
    pub planned_plan : (s : State) → s.modes ≡ take (reactors img) modes →
        plan_in img p ≡ plan_of img (of_global q.c) (inside_of img q.reset (mode_scope img q.mode)) (prepared img q.reactor q.mode q.reset s)
    unfolding plan_of
    planned_plan s e =
        rw (h.c, marks_map _ (scopes img) p.inside.words h.inside, marks_map _ (scopes img) p.now.words h.now, prepared_modes s, e)

    -- and its modes after steps 1 and 2
    pub planned_modes : (s : State) → s.modes ≡ take (reactors img) modes → p.modes ≡ padded 0 most_reactors (prepared img q.reactor q.mode q.reset s).modes
    planned_modes s e = h.modes ∙ rw (prepared_modes s, e)

pub ruleset mode_cases = (mode_asked, mode_kept, mode_initial, mode_outside, flag_no, flag_yes, refl)
