-- Document 02, C-14, "A reset scope must start from nothing": it does, and all else is as it was before. Assumes nothing.
use Prim.Native.Nat.{ℕ, zero, suc, ◌+◌, ◌<◌, ◌≤◌}
use Rattle.std.specs.Prelude.{Bool, cond, not, ◌&&◌, ◌||◌, ◌≢◌, ◌≡◌, leb, length, get_or, set}
use Rattle.std.proofs.Math.Bool.{true, false}
use Rattle.std.proofs.Math.Path.{refl, ap, sym}
use Rattle.std.proofs.Common.{◌∙◌, arith}
use mathlib.Core.List.{List, [], ◌∷◌, map}
use Rattle.std.proofs.Math.Seq.{get_or-set_other}
use Rattle.lists.specs.Tests.{and_left, and_right}
use Rattle.lists.specs.Lists.{every, from}
use Rattle.lists.specs.Every.{by_test, no_way, not_so, or_else_lem, done_is, unless_is, either_is, every_head, every_tail, every_imp, every_all, or_left, below_every, get_or_from, keep_walk}
use Rattle.lists.specs.Walk.{Result, done, refused, ◌>>=◌, walk, bind_done}
use Rattle.refusals.specs.declared.Refusal.{Refusal}
use Rattle.refusals.specs.declared.Refusal.TheVariants as R
use Rattle.table_rows.specs.Bytes.{Image}
use Rattle.table_rows.specs.Limits.{limits}
use Rattle.table_rows.specs.Rows.{mode_scope, startup_action, timer_action}
use Rattle.table_rows.specs.Lineage.{in_subtree}
use Rattle.table.specs.Rules.{timer_tag}
use Rattle.tags.specs.Tags.{Tag, Clock, Answer, zero_tag, delayed, to_local, to_global, image_of}
use Rattle.store.specs.Store as S
use Rattle.table_schedule.specs.Schedule.{startups_of, resets_of}
use Rattle.machine.specs.Table.{scopes}
use Rattle.machine.specs.State.{Event, Scope, State, fresh_scope, scope_in, scope_at, clock_at, active_at, clocked, with_scopes, with_store, accepted}
use Rattle.machine.specs.Transition.{Plan, Step, is_now, is_inside, inside_of, reset_scopes, step1, prepared, suspended, leaving, activated, staying, clock_after, is_tag, entering, Turning}
use Rattle.machine.specs.Transition.{turn_by, one_turn, with_turn, turned, held, plain_event, firsts, startup_rows, startups, if_some, step4, timer_scope, timer_image, timer_event, timer}
use Rattle.machine.specs.Transition.{timer_rows, reset_rows, reset_event, step5, plan_of, turns_on, transition}

-- ---- a transition as 01 has it and the Rust, with S from c wherever a scope goes inactive: only what the theorems speak of

unfoldable pub old_clock_after : Tag → Bool → Bool → Scope → Result Refusal Clock
old_clock_after c now inside x =
    cond x.active (cond now (done (staying c inside x.clock)) (to_local x.clock c >>= λ t. done (suspended x.clock t)))
    (done (cond now (activated c x.clock) x.clock))

unfoldable pub old_turned : Image → Plan → State → ℕ → Step
old_turned img p s i =
    (old_clock_after p.c (is_now p i) (is_inside p i) (scope_at s i) >>= λ k.
    turn_by (limits img).held (is_now p i) i (scope_at s i) k s.waiting s.store) >>= λ t. done (with_turn s i t)

unfoldable pub old_transition : Image → ℕ → ℕ → Bool → Tag → State → Step
old_transition img r m reset c s =
    let t = prepared img r m reset s in
    let p = plan_of img c (inside_of img reset (mode_scope img m)) t in
    walk (old_turned img p) t (from 0 (scopes img)) >>= λ u.
    step4 img p.c (firsts img p t) u >>= λ v.
    step5 img p.c (mode_scope img m) p.inside v

-- ---- the case, "a child scope that a reset turns inactive": which scopes, in the state that steps 1 and 2 left

abbrev pub turns_off : Plan → State → ℕ → Bool
turns_off p s i = is_inside p i && (active_at s i && not (is_now p i))

-- S at zero in those that are marked
abbrev pub unsuspended : Scope → Scope
unsuspended x = clocked (suspended x.clock zero_tag) x

unfoldable pub from_nothing : List Bool → List Scope → List Scope
from_nothing (true ∷ bs) (x ∷ l) = unsuspended x ∷ from_nothing bs l
from_nothing (false ∷ bs) (x ∷ l) = x ∷ from_nothing bs l
from_nothing [] l = l
from_nothing (b ∷ bs) [] = []

nothing_at : (bs : List Bool) (l : List Scope) (i : ℕ) → scope_in (from_nothing bs l) i ≡ cond (get_or bs i false) (unsuspended (scope_in l i)) (scope_in l i)
unfolding from_nothing
nothing_at [] l i = refl
nothing_at (b ∷ bs) [] i = by_test (get_or (b ∷ bs) i false) (λ e. rw e) (λ e. rw e)
nothing_at (true ∷ bs) (x ∷ l) zero = refl
nothing_at (false ∷ bs) (x ∷ l) zero = refl
nothing_at (true ∷ bs) (x ∷ l) (suc i) = nothing_at bs l i
nothing_at (false ∷ bs) (x ∷ l) (suc i) = nothing_at bs l i

nothing_set : (bs : List Bool) (l : List Scope) (i : ℕ) (x : Scope) → from_nothing bs (set l i x) ≡ set (from_nothing bs l) i (cond (get_or bs i false) (unsuspended x) x)
unfolding from_nothing
nothing_set [] l i x = refl
nothing_set (b ∷ bs) [] i x = refl
nothing_set (true ∷ bs) (y ∷ l) zero x = refl
nothing_set (false ∷ bs) (y ∷ l) zero x = refl
nothing_set (true ∷ bs) (y ∷ l) (suc i) x = ap (unsuspended y ∷◌) (nothing_set bs l i x)
nothing_set (false ∷ bs) (y ∷ l) (suc i) x = ap (y ∷◌) (nothing_set bs l i x)

-- nothing changes where S is zero already
nothing_same : (bs : List Bool) (l : List Scope) → ((i : ℕ) → get_or bs i false ≡ true → (scope_in l i).clock.S ≡ zero_tag) → from_nothing bs l ≡ l
unfolding from_nothing
nothing_same [] l h = refl
nothing_same (b ∷ bs) [] h = refl
nothing_same (true ∷ bs) (x ∷ l) h = rw (h 0 refl, nothing_same bs l (λ i. h (suc i)))
nothing_same (false ∷ bs) (x ∷ l) h = ap (x ∷◌) (nothing_same bs l (λ i. h (suc i)))

nothing_none : (f : ℕ → Bool) (js : List ℕ) (l : List Scope) → every (λ j. not (f j)) js ≡ true → from_nothing (map f js) l ≡ l
unfolding from_nothing
nothing_none f [] l h = refl
nothing_none f (j ∷ js) [] h = refl
nothing_none f (j ∷ js) (x ∷ l) h =
    rw (not_so (f j) (every_head (λ j. not (f j)) j js h)) (ap (x ∷◌) (nothing_none f js l (every_tail (λ j. not (f j)) j js h)))

-- ---- steps that don't read S: with S at zero they come to the same, with S at zero

module _ (bs : List Bool) where
  abbrev pub freed : State → State
  freed s = with_scopes s (from_nothing bs s.scopes)

  abbrev pub then_freed : Step → Step
  then_freed r = r >>= λ t. done (freed t)

  under_bind : {A : Type 0} (r : Result Refusal A) (f g : A → Step) → ((a : A) → f a ≡ then_freed (g a)) → (r >>= f) ≡ then_freed (r >>= g)
  under_bind (done a) f g h = h a
  under_bind (refused n) f g h = refl

  over_bind : (r : Step) (f g : State → Step) → ((t : State) → r ≡ done t → f (freed t) ≡ then_freed (g t)) → (then_freed r >>= f) ≡ then_freed (r >>= g)
  over_bind (done t) f g h = h t refl
  over_bind (refused n) f g h = refl

  free_walk : {A : Type 0} (f : State → A → Step) → ((s : State) (a : A) → f (freed s) a ≡ then_freed (f s a)) → (l : List A) (s : State) → walk f (freed s) l ≡ then_freed (walk f s l)
  unfolding walk
  free_walk f h [] s = refl
  free_walk f h (a ∷ l) s = rw (h s a) (over_bind (f s a) (λ t. walk f t l) (λ t. walk f t l) λ t e. free_walk f h l t)

  free_some : (rows : List ℕ) (s : State) (q r : Step) → q ≡ then_freed r → if_some rows (done (freed s)) q ≡ then_freed (if_some rows (done s) r)
  free_some [] s q r h = refl
  free_some (j ∷ js) s q r h = h

  module _ (img : Image) where
    free_held : (a : ℕ) (t : Tag) (s : State) → held img a t (freed s) ≡ then_freed (held img a t s)
    unfolding held
    free_held a t s = under_bind (S.pushed (limits img).held s.store a t 0) (λ st. done (with_store (freed s) st)) (λ st. done (with_store s st)) λ st. refl

    free_accepted : (s : State) (e : Event) → accepted img (freed s) e ≡ then_freed (accepted img s e)
    unfolding accepted
    free_accepted s e = by_test (leb (limits img).waiting (length s.waiting)) (λ h. rw h) (λ h. rw h)

    free_step4 : (c : Tag) (first : List ℕ) (s : State) → step4 img c first (freed s) ≡ then_freed (step4 img c first s)
    unfolding step4 startups
    free_step4 c first s =
        let rows = startup_rows img first in
        free_some rows s _ _
        (under_bind (delayed c) (λ there. startups img there first rows (freed s)) (λ there. startups img there first rows s) λ there.
        let f : State → ℕ → Step = λ t j. held img (startup_action img j) there t in
        let g : State → Step = λ t. walk (λ u i. accepted img u (plain_event there (startups_of img i))) t first in
        rw (free_walk f (λ t j. free_held (startup_action img j) there t) rows s)
        (over_bind (walk f s rows) g g λ t e. free_walk _ (λ u i. free_accepted u (plain_event there (startups_of img i))) first t))

    free_image : (s : State) (j : ℕ) → timer_image img (freed s) j ≡ timer_image img s j
    unfolding timer_image to_global
    free_image s j = let q = timer_scope img j in ap (λ x. image_of x.clock (timer_tag img j)) (nothing_at bs s.scopes q) ∙ go (get_or bs q false) (scope_at s q)
      where
        go : (b : Bool) (x : Scope) → image_of (cond b (unsuspended x) x).clock (timer_tag img j) ≡ image_of x.clock (timer_tag img j)
        go true x = refl
        go false x = refl

    free_timer : (s : State) (j : ℕ) → timer img (freed s) j ≡ then_freed (timer img s j)
    unfolding timer
    free_timer s j =
        let k : Tag → State → Step = λ g t. accepted img t (timer_event img j g) in
        rw (free_image s j)
        (under_bind (timer_image img s j) (λ g. held img (timer_action img j) g (freed s) >>= k g) (λ g. held img (timer_action img j) g s >>= k g) λ g.
        rw (free_held (timer_action img j) g s) (over_bind (held img (timer_action img j) g s) (k g) (k g) λ t e. free_accepted t (timer_event img j g)))

    free_step5 : (c : Tag) (target : ℕ) (ins : List Bool) (s : State) → step5 img c target ins (freed s) ≡ then_freed (step5 img c target ins s)
    unfolding step5 reset_event
    free_step5 c target ins s =
        let g : State → Step = λ t. reset_event img c target (reset_rows img ins) t in
        rw (free_walk (timer img) free_timer (timer_rows img ins) s)
        (over_bind (walk (timer img) s (timer_rows img ins)) g g λ t e.
        free_some (reset_rows img ins) t _ _ (under_bind (delayed c) _ _ λ there. free_accepted t (plain_event there (resets_of img target))))

-- ---- step 3

tag_is : {P : Type 0} (r : Answer) → is_tag r ≡ true → ((t : Tag) → r ≡ done t → P) → P
tag_is (done t) e f = f t refl
tag_is (refused n) e f = no_way e

same_clock : (c : Tag) (now inside : Bool) (x : Scope) → (inside && (x.active && not now)) ≡ false → clock_after c now inside x ≡ old_clock_after c now inside x
unfolding clock_after old_clock_after leaving
same_clock c now inside x h =
    by_test x.active
    (λ a. by_test now (λ b. rw (a, b)) (λ b. by_test inside (λ d. no_way (sym h ∙ rw (a, b, d))) (λ d. rw (a, b, d))))
    (λ a. rw a)

module _ (img : Image) (p : Plan) (s : State) where
  abbrev pub offs : List Bool
  offs = map (turns_off p s) (from 0 (scopes img))

  -- c maps within the limits for such a scope, so that the old turn is not refused
  abbrev pub off_maps : ℕ → Bool
  off_maps i = not (turns_off p s i) || is_tag (to_local (clock_at s i) p.c)

  module _ (i : ℕ) (l : i < scopes img) (u : State) (same : scope_at u i ≡ scope_at s i) where
    off_at : get_or offs i false ≡ turns_off p u i
    off_at = get_or_from (turns_off p s) (scopes img) i l ∙ ap (λ x. is_inside p i && (x.active && not (is_now p i))) (sym same)

    with_turn_lem : (t v : Turning) → t ≡ record { scope = cond (get_or offs i false) (unsuspended v.scope) v.scope; waiting = v.waiting; store = v.store } →
        with_turn (freed offs u) i t ≡ freed offs (with_turn u i v)
    with_turn_lem t v e = rw (e, nothing_set offs u.scopes i v.scope)

    other_turn : turns_off p u i ≡ false → turned img p (freed offs u) i ≡ then_freed offs (old_turned img p u i)
    unfolding turned one_turn old_turned
    other_turn h =
        let b = off_at ∙ h in
        let x = scope_at u i in
        rw (nothing_at offs u.scopes i, b, same_clock p.c (is_now p i) (is_inside p i) x h)
        (under_bind offs (old_clock_after p.c (is_now p i) (is_inside p i) x >>= λ k. turn_by (limits img).held (is_now p i) i x k u.waiting u.store) _ _
        λ t. ap done (with_turn_lem t t (rw b)))

    off_turn : turns_off p u i ≡ true → is_tag (to_local (clock_at s i) p.c) ≡ true → turned img p (freed offs u) i ≡ then_freed offs (old_turned img p u i)
    unfolding turned one_turn clock_after leaving old_turned old_clock_after turn_by
    off_turn h m =
        let a = and_left (active_at u i) _ (and_right (is_inside p i) _ h) in
        let n = not_so (is_now p i) (and_right (active_at u i) _ (and_right (is_inside p i) _ h)) in
        let b = off_at ∙ h in
        tag_is (to_local (clock_at u i) p.c) (ap (λ x. is_tag (to_local x.clock p.c)) same ∙ m) λ t e.
        rw (nothing_at offs u.scopes i, b, n, a, and_left (is_inside p i) _ h, e) (ap done (with_turn_lem _ _ (rw b)))

    one_turn_lem : off_maps i ≡ true → turned img p (freed offs u) i ≡ then_freed offs (old_turned img p u i)
    one_turn_lem m =
        by_test (turns_off p u i)
        (λ h. off_turn h (or_else_lem (not (turns_off p s i)) _ (ap not (sym (get_or_from (turns_off p s) (scopes img) i l) ∙ (off_at ∙ h))) m)) other_turn

  others : (i : ℕ) (u v : State) → old_turned img p u i ≡ done v → (j : ℕ) → j ≢ i → scope_at v j ≡ scope_at u j
  unfolding old_turned
  others i u v d j q =
      bind_done (old_clock_after p.c (is_now p i) (is_inside p i) (scope_at u i) >>= λ k. turn_by (limits img).held (is_now p i) i (scope_at u i) k u.waiting u.store)
      (λ t. done (with_turn u i t)) d λ t x y.
      sym (ap (λ w. scope_at w j) (done_is y)) ∙ get_or-set_other u.scopes i j t.scope (fresh_scope false) q

  module _ (h : every off_maps (from 0 (scopes img)) ≡ true) where
    free_turns : (n i : ℕ) (u : State) → i + n ≡ scopes img → ((j : ℕ) → i ≤ j → scope_at u j ≡ scope_at s j) →
        walk (turned img p) (freed offs u) (from i n) ≡ then_freed offs (walk (old_turned img p) u (from i n))
    unfolding walk from
    free_turns zero i u e same = refl
    free_turns (suc n) i u e same =
        rw (one_turn_lem i (omega arith) u (same i (omega arith)) (below_every off_maps (scopes img) h i (omega arith)))
        (over_bind offs (old_turned img p u i) (λ t. walk (turned img p) t (from (suc i) n)) (λ t. walk (old_turned img p) t (from (suc i) n)) λ t d.
        free_turns n (suc i) t (omega arith) (λ j k. others i u t d j (λ z. omega arith) ∙ same j (omega arith)))

-- ---- steps 1 and 2: L and S are zero throughout the subtree

abbrev pub Nothing : Clock → Type 0
Nothing k = (k.L ≡ zero_tag) × (k.S ≡ zero_tag)

reset_nothing : (ins : List Bool) (l : List Scope) (i : ℕ) → get_or ins i false ≡ true → Nothing (scope_in (reset_scopes ins l) i).clock
unfolding reset_scopes
reset_nothing [] l i e = no_way e
reset_nothing (b ∷ bs) [] i e = (refl, refl)
reset_nothing (true ∷ bs) (x ∷ l) zero e = (refl, refl)
reset_nothing (false ∷ bs) (x ∷ l) zero e = no_way e
reset_nothing (true ∷ bs) (x ∷ l) (suc i) e = reset_nothing bs l i e
reset_nothing (false ∷ bs) (x ∷ l) (suc i) e = reset_nothing bs l i e

mark_of : (f : ℕ → Bool) (n i j : ℕ) → get_or (map f (from i n)) j false ≡ true → f (i + j) ≡ true
unfolding from
mark_of f zero i j e = no_way e
mark_of f (suc n) i zero e = ap f (omega arith) ∙ e
mark_of f (suc n) i (suc j) e = ap f (omega arith) ∙ mark_of f n (suc i) j e

marked_by : (f : ℕ → Bool) (n j : ℕ) → get_or (map f (from 0 n)) j false ≡ true → f j ≡ true
marked_by f n j e = ap f (omega arith) ∙ mark_of f n 0 j e

-- ---- and so they are after the turns of all scopes, and after steps 4 and 5, which leave the scopes alone

abbrev Started : Plan → State → Type 0
Started p s = (i : ℕ) → is_inside p i ≡ true → Nothing (clock_at s i)

clock_nothing : (c : Tag) (now : Bool) (x : Scope) (k : Clock) → clock_after c now true x ≡ done k → Nothing x.clock → Nothing k
unfolding clock_after leaving staying
clock_nothing c now x k d h =
    either_is x.active d
    (λ a e. either_is now e (λ b f. rw (← (done_is f)) (refl, refl)) (λ b f. rw (← (done_is f)) h))
    (λ a e. either_is now (done_is e) (λ b f. rw (← f) (h.1, h.1)) (λ b f. rw (← f) h))

turn_clock : (limit : ℕ) (now : Bool) (i : ℕ) (x : Scope) (k : Clock) (s : State) (t : Turning) → turn_by limit now i x k s.waiting s.store ≡ done t → t.scope.clock ≡ k
unfolding turn_by
turn_clock limit now i x k s t d =
    either_is (now && not x.active) d
    (λ a e. bind_done (entering limit i k s.waiting s.store) _ e λ u y z. ap (λ t. t.scope.clock) (sym (done_is z)))
    (λ a e. ap (λ t. t.scope.clock) (sym (done_is e)))

set_keeps : {A : Type 0} (P : A → Type 0) (l : List A) (i j : ℕ) (x d : A) → P (get_or l j d) → (j ≡ i → P x) → P (get_or (set l i x) j d)
set_keeps P [] i j x d h k = h
set_keeps P (y ∷ l) zero zero x d h k = k refl
set_keeps P (y ∷ l) zero (suc j) x d h k = h
set_keeps P (y ∷ l) (suc i) zero x d h k = h
set_keeps P (y ∷ l) (suc i) (suc j) x d h k = set_keeps P l i j x d h (λ e. k (ap suc e))

turned_started : (img : Image) (p : Plan) (s : State) (i : ℕ) (t : State) → Started p s → turned img p s i ≡ done t → Started p t
unfolding turned one_turn
turned_started img p s i t h d j e =
    let x = scope_at s i in
    bind_done (clock_after p.c (is_now p i) (is_inside p i) x >>= λ k. turn_by (limits img).held (is_now p i) i x k s.waiting s.store) _ d λ u y z.
    bind_done (clock_after p.c (is_now p i) (is_inside p i) x) (λ k. turn_by (limits img).held (is_now p i) i x k s.waiting s.store) y λ k v w.
    rw (← (done_is z))
    (set_keeps (λ x. Nothing x.clock) s.scopes i j u.scope (fresh_scope false) (h j e)
    (λ q. let b = rw q at e in rw (turn_clock (limits img).held (is_now p i) i x k s u w) (clock_nothing p.c (is_now p i) x k (rw b at v) (h i b))))

module _ (img : Image) (ss : List Scope) where
  abbrev Scopes : State → Type 0
  Scopes s = s.scopes ≡ ss

  each_walk : {A : Type 0} (f : State → A → Step) → ((s : State) (a : A) (t : State) → Scopes s → f s a ≡ done t → Scopes t) →
      (l : List A) (s t : State) → Scopes s → walk f s l ≡ done t → Scopes t
  each_walk f h l s t = keep_walk Scopes (λ a. true) f (λ s a t e. h s a t) l s t (every_all (λ a. true) (λ a. refl) l)

  held_scopes : (a : ℕ) (x : Tag) (s t : State) → Scopes s → held img a x s ≡ done t → Scopes t
  unfolding held
  held_scopes a x s t h d = bind_done (S.pushed (limits img).held s.store a x 0) _ d λ st y z. rw (← (done_is z)) h

  accepted_scopes : (s : State) (e : Event) (t : State) → Scopes s → accepted img s e ≡ done t → Scopes t
  unfolding accepted
  accepted_scopes s e t h d = rw (← (done_is (unless_is (leb (limits img).waiting (length s.waiting)) R.Waiting d).1)) h

  some_scopes : (rows : List ℕ) (s t : State) (q : Step) → Scopes s → (q ≡ done t → Scopes t) → if_some rows (done s) q ≡ done t → Scopes t
  some_scopes [] s t q h k d = rw (← (done_is d)) h
  some_scopes (j ∷ js) s t q h k d = k d

  step4_scopes : (c : Tag) (first : List ℕ) (s t : State) → Scopes s → step4 img c first s ≡ done t → Scopes t
  unfolding step4 startups
  step4_scopes c first s t h =
      let rows = startup_rows img first in
      some_scopes rows s t _ h
      (λ d. bind_done (delayed c) _ d λ there y z.
      bind_done (walk (λ t j. held img (startup_action img j) there t) s rows) _ z λ u v w.
      each_walk (λ u i. accepted img u (plain_event there (startups_of img i))) (λ s i t. accepted_scopes s (plain_event there (startups_of img i)) t) first u t
      (each_walk (λ t j. held img (startup_action img j) there t) (λ s j t. held_scopes (startup_action img j) there s t) rows s u h v) w)

  timer_scopes : (s : State) (j : ℕ) (t : State) → Scopes s → timer img s j ≡ done t → Scopes t
  unfolding timer
  timer_scopes s j t h d =
      bind_done (timer_image img s j) _ d λ g y z.
      bind_done (held img (timer_action img j) g s) (λ u. accepted img u (timer_event img j g)) z λ u v w.
      accepted_scopes u (timer_event img j g) t (held_scopes (timer_action img j) g s u h v) w

  step5_scopes : (c : Tag) (target : ℕ) (ins : List Bool) (s t : State) → Scopes s → step5 img c target ins s ≡ done t → Scopes t
  unfolding step5 reset_event
  step5_scopes c target ins s t h d =
      bind_done (walk (timer img) s (timer_rows img ins)) (λ u. reset_event img c target (reset_rows img ins) u) d λ u y z.
      some_scopes (reset_rows img ins) u t _ (each_walk (timer img) timer_scopes (timer_rows img ins) s u h y)
      (λ e. bind_done (delayed c) _ e λ there v w. accepted_scopes u (plain_event there (resets_of img target)) t (each_walk (timer img) timer_scopes (timer_rows img ins) s u h y) w) z

module _ (img : Image) (r m : ℕ) (c : Tag) (s : State) where
  module _ (reset : Bool) where
    -- the state that steps 1 and 2 leave, and the plan for the rest
    abbrev pub ready : State
    ready = prepared img r m reset s

    abbrev pub plan : Plan
    plan = plan_of img c (inside_of img reset (mode_scope img m)) ready

  inside_reset : (reset : Bool) (i : ℕ) → is_inside (plan reset) i ≡ true → (reset && in_subtree img (mode_scope img m) i) ≡ true
  unfolding plan_of
  inside_reset reset i e = marked_by (λ i. reset && in_subtree img (mode_scope img m) i) (scopes img) i e

  ready_nothing : (reset : Bool) (i : ℕ) → is_inside (plan reset) i ≡ true → Nothing (clock_at (ready reset) i)
  unfolding plan_of prepared step1
  ready_nothing true i e = reset_nothing (inside_of img true (mode_scope img m)) s.scopes i e
  ready_nothing false i e = no_way (inside_reset false i e)

  -- ---- "otherwise as before"

  module _ (reset : Bool) where
    abbrev pub off : ℕ → Bool
    off = turns_off (plan reset) (ready reset)

    ready_same : freed (offs img (plan reset) (ready reset)) (ready reset) ≡ ready reset
    ready_same =
        ap (with_scopes (ready reset))
        (nothing_same (map off (from 0 (scopes img))) (ready reset).scopes
        (λ i e. (ready_nothing reset i (and_left (is_inside (plan reset) i) _ (marked_by off (scopes img) i e))).1))

    -- unless the old turn gave 7 for such a scope's S: the old transition, refusals included, but with S at zero in those scopes
    pub as_before : every (off_maps img (plan reset) (ready reset)) (from 0 (scopes img)) ≡ true →
        transition img r m reset c s ≡ (old_transition img r m reset c s >>= λ t. done (freed (map off (from 0 (scopes img))) t))
    unfolding transition turns_on old_transition
    as_before h =
        let bs = map off (from 0 (scopes img)) in
        let p = plan reset in
        let t = ready reset in
        let f : State → Step = λ v. step5 img p.c (mode_scope img m) p.inside v in
        let g : State → Step = λ u. step4 img p.c (firsts img p t) u >>= f in
        ap (◌>>= g) (sym (ap (λ u. walk (turned img p) u (from 0 (scopes img))) ready_same) ∙ free_turns img p t h (scopes img) 0 t (omega arith) (λ j k. refl))
        ∙ over_bind bs (walk (old_turned img p) t (from 0 (scopes img))) g g λ u e.
        rw (free_step4 bs img p.c (firsts img p t) u) (over_bind bs (step4 img p.c (firsts img p t) u) f f λ v e. free_step5 bs img p.c (mode_scope img m) p.inside v)

    -- "Demand 2 compares with the Rust outside this case": there nothing has changed
    pub outside : every (λ i. not (off i)) (from 0 (scopes img)) ≡ true → transition img r m reset c s ≡ old_transition img r m reset c s
    outside h =
        let n = scopes img in
        as_before (every_imp (λ i. not (off i)) (off_maps img (plan reset) (ready reset)) (λ i e. or_left _ e) (from 0 n) h) ∙ go (old_transition img r m reset c s)
      where
        go : (q : Step) → (q >>= λ t. done (freed (map off (from 0 (scopes img))) t)) ≡ q
        go (done t) = ap (λ l. done (with_scopes t l)) (nothing_none off (from 0 (scopes img)) t.scopes h)
        go (refused n) = refl

  -- so for each transition that is no reset
  pub history_outside : transition img r m false c s ≡ old_transition img r m false c s
  history_outside =
      outside false (every_all (λ i. not (off false i)) (λ i. by_test (is_inside (plan false) i) (λ e. no_way (inside_reset false i e)) (λ e. rw e)) (from 0 (scopes img)))

  -- ---- "A reset scope must start from nothing": after a reset the clock of each scope of the subtree stands at zero, active or not

  pub from_nothing_lem : (t : State) → transition img r m true c s ≡ done t → (i : ℕ) → i < scopes img → in_subtree img (mode_scope img m) i ≡ true → Nothing (clock_at t i)
  unfolding transition turns_on plan_of
  from_nothing_lem t d i l e =
      let p = plan true in
      bind_done (walk (turned img p) (ready true) (from 0 (scopes img))) (λ u. step4 img p.c (firsts img p (ready true)) u >>= λ v. step5 img p.c (mode_scope img m) p.inside v) d λ u x y.
      bind_done (step4 img p.c (firsts img p (ready true)) u) (λ v. step5 img p.c (mode_scope img m) p.inside v) y λ v z w.
      rw (step5_scopes img u.scopes p.c (mode_scope img m) p.inside v t (step4_scopes img u.scopes p.c (firsts img p (ready true)) u v refl z) w)
      (turns u x i (get_or_from (λ i. true && in_subtree img (mode_scope img m) i) (scopes img) i l ∙ e))
    where
      turns : (u : State) → walk (turned img (plan true)) (ready true) (from 0 (scopes img)) ≡ done u → Started (plan true) u
      turns u x =
          keep_walk (Started (plan true)) (λ j. true) (turned img (plan true)) (λ s j t b. turned_started img (plan true) s j t) (from 0 (scopes img)) (ready true) u
          (every_all (λ j. true) (λ j. refl) (from 0 (scopes img))) (ready_nothing true) x
