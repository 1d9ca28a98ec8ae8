-- A transition: once the reset has dropped its events, every step leaves those that wait as they are but for stored tags, or adds one at the end.
-- Assumes nothing.
use Rattle.std.specs.Prelude.{ℕ, Bool, true, false, not, ◌&&◌, ◌≡◌, leb, length}
use Rattle.std.proofs.Math.Path.{refl}
use Rattle.std.proofs.Common.{ap, ◌∙◌, sym}
use mathlib.Core.List.{List, [], ◌∷◌, ◌++◌, map, map-append, append_assoc, append-nil}
use Rattle.lists.specs.Lists.{lose, from}
use Rattle.lists.specs.Walk.{Result, done, ◌>>=◌, walk, bind_done}
use Rattle.refusals.specs.declared.Refusal.{Refusal}
use Rattle.refusals.specs.declared.Refusal.TheVariants as R
use Rattle.table_rows.specs.Bytes.{Image}
use Rattle.table_rows.specs.Limits.{limits}
use Rattle.table_rows.specs.Rows.{mode_scope, startup_action, timer_action}
use Rattle.tags.specs.Tags.{Tag, zero_tag, delayed}
use Rattle.store.specs.Store as S
use Rattle.store.specs.Store.{Store}
use Rattle.table_schedule.specs.Schedule.{startups_of, resets_of}
use Rattle.machine.specs.Table.{scopes}
use Rattle.machine.specs.State.{Event, Scope, State, stamped, with_store, scope_at, accepted, without}
use Rattle.machine.specs.Transition.{Plan, is_now, is_inside, inside_of, dropped, step1, prepared, clock_after, stamp, entering, Turning, turn_by, one_turn, with_turn, turned, held, plain_event}
use Rattle.machine.specs.Transition.{firsts, startup_rows, startups, if_some, step4, timer_image, timer_event, timer, timer_rows, reset_rows, reset_event, step5, plan_of, turns_on, transition}
use Rattle.lists.specs.Every.{done_is, unless_is, either_is}
use Rattle.lists.specs.Each.{map_lose}
use Rattle.machine_history.specs.Deeds.{bare, soon, when_some, startup_events, timer_events, reset_events, transition_events}

-- the waiting events but for their stored tags
abbrev pub bares : State → List Event
bares s = map bare s.waiting

-- t has the waiting events of s, and then those made
abbrev pub Grown : List Event → State → State → Type 0
Grown es s t = bares t ≡ bares s ++ es

grown_same : (s t : State) → bares t ≡ bares s → Grown [] s t
grown_same s t e = e ∙ sym (append-nil (bares s))

grown_then : (s t u : State) (es fs : List Event) → Grown es s t → Grown fs t u → Grown (es ++ fs) s u
grown_then s t u es fs a b = b ∙ (ap (◌++ fs) a ∙ append_assoc (bares s) es fs)

-- a step that leaves the events alone
alone : (s t : State) {u : State} → bares t ≡ bares s → ◌≡◌ {A = Result Refusal State} (done t) (done u) → bares u ≡ bares s
alone s t e d = ap bares (sym (done_is d)) ∙ e

module _ {A : Type 0} (f : State → A → Result Refusal State) where
  alone_walk : ((s : State) (a : A) (t : State) → f s a ≡ done t → bares t ≡ bares s) → (l : List A) (s t : State) → walk f s l ≡ done t → bares t ≡ bares s
  unfolding walk
  alone_walk h [] s t e = alone s s refl e
  alone_walk h (a ∷ l) s t e = bind_done (f s a) (λ u. walk f u l) e λ u d r. alone_walk h l u t r ∙ h s a u d

  -- one event for each
  grown_walk : (g : A → Event) → ((s : State) (a : A) (t : State) → f s a ≡ done t → Grown (g a ∷ []) s t) → (l : List A) (s t : State) → walk f s l ≡ done t → Grown (map g l) s t
  unfolding walk
  grown_walk g h [] s t e = grown_same s t (alone s s refl e)
  grown_walk g h (a ∷ l) s t e = bind_done (f s a) (λ u. walk f u l) e λ u d r. grown_then s u t (g a ∷ []) (map g l) (h s a u d) (grown_walk g h l u t r)

pub accepted_grown : (img : Image) (s : State) (e : Event) (t : State) → accepted img s e ≡ done t → Grown (bare e ∷ []) s t
unfolding accepted
accepted_grown img s e t d =
    ap bares (sym (done_is (unless_is (leb (limits img).waiting (length s.waiting)) R.Waiting d).1)) ∙ map-append bare s.waiting (e ∷ [])

stores : (s : State) (r : Result Refusal Store) (t : State) → (r >>= λ st. done (with_store s st)) ≡ done t → bares t ≡ bares s
stores s r t d = bind_done r (λ st. done (with_store s st)) d λ st e q. alone s (with_store s st) refl q

held_alone : (img : Image) (a : ℕ) (x : Tag) (s t : State) → held img a x s ≡ done t → bares t ≡ bares s
unfolding held
held_alone img a x s t d = stores s (S.pushed (limits img).held s.store a x 0) t d

-- ---- step 3

map_stamped : (f : Event → Tag) (l : List Event) → map bare (map (λ e. stamped e (f e)) l) ≡ map bare l
map_stamped f [] = refl
map_stamped f (e ∷ l) = ap (bare e ∷◌) (map_stamped f l)

-- going active moves values and sets stored tags; any other turn leaves the events as they are
turn_alone : (limit : ℕ) (c : Tag) (now inside : Bool) (i : ℕ) (x : Scope) (es : List Event) (st : Store) (t : Turning) → one_turn limit c now inside i x es st ≡ done t →
    map bare t.waiting ≡ map bare es
unfolding one_turn turn_by
turn_alone limit c now inside i x es st t d =
    bind_done (clock_after c now inside x) _ d λ k e r.
    either_is (now && not x.active) r
    (λ a q. bind_done (entering limit i k es st) _ q λ u y z. ap (λ t. map bare t.waiting) (sym (done_is z)) ∙ map_stamped (stamp i k) es)
    (λ a q. ap (λ t. map bare t.waiting) (sym (done_is q)))

turned_alone : (img : Image) (p : Plan) (s : State) (i : ℕ) (t : State) → turned img p s i ≡ done t → bares t ≡ bares s
unfolding turned
turned_alone img p s i t d =
    bind_done (one_turn (limits img).held p.c (is_now p i) (is_inside p i) i (scope_at s i) s.waiting s.store) _ d λ u e r.
    alone s (with_turn s i u) (turn_alone (limits img).held p.c (is_now p i) (is_inside p i) i (scope_at s i) s.waiting s.store u e) r

-- ---- steps 4 and 5

step4_grown : (img : Image) (c : Tag) (first : List ℕ) (s t : State) → step4 img c first s ≡ done t → Grown (startup_events img c first) s t
unfolding step4 startups startup_events
step4_grown img c first s t d = some (startup_rows img first) d
  where
    some : (rows : List ℕ) → if_some rows (done s) (delayed c >>= λ there. startups img there first (startup_rows img first) s) ≡ done t →
        Grown (when_some rows (map (λ i. plain_event (soon c) (startups_of img i)) first)) s t
    some [] d = grown_same s t (alone s s refl d)
    some (j ∷ js) d =
        bind_done (delayed c) (λ there. startups img there first (startup_rows img first) s) d λ there e r.
        bind_done (walk (λ t j. held img (startup_action img j) there t) s (startup_rows img first)) _ r λ u f q.
        rw e
        (grown_walk (λ u i. accepted img u (plain_event there (startups_of img i))) (λ i. plain_event there (startups_of img i))
        (λ s i. accepted_grown img s (plain_event there (startups_of img i))) first u t q ∙
        ap (◌++ map (λ i. plain_event there (startups_of img i)) first)
        (alone_walk (λ t j. held img (startup_action img j) there t) (λ s j. held_alone img (startup_action img j) there s) (startup_rows img first) s u f))

timer_grown : (img : Image) (s : State) (j : ℕ) (t : State) → timer img s j ≡ done t → Grown (timer_event img j zero_tag ∷ []) s t
unfolding timer timer_event
timer_grown img s j t d =
    bind_done (timer_image img s j) _ d λ g e r.
    bind_done (held img (timer_action img j) g s) (λ u. accepted img u (timer_event img j g)) r λ u f q.
    accepted_grown img u (timer_event img j g) t q ∙ ap (◌++ (timer_event img j zero_tag ∷ [])) (held_alone img (timer_action img j) g s u f)

step5_grown : (img : Image) (c : Tag) (target : ℕ) (ins : List Bool) (s t : State) → step5 img c target ins s ≡ done t → Grown (timer_events img ins ++ reset_events img c target ins) s t
unfolding step5 reset_event timer_events reset_events
step5_grown img c target ins s t d =
    bind_done (walk (timer img) s (timer_rows img ins)) _ d λ u e r.
    grown_then s u t (timer_events img ins) (reset_events img c target ins)
    (grown_walk (timer img) (λ j. timer_event img j zero_tag) (timer_grown img) (timer_rows img ins) s u e) (some u (reset_rows img ins) r)
  where
    some : (u : State) (rows : List ℕ) → if_some rows (done u) (delayed c >>= λ there. accepted img u (plain_event there (resets_of img target))) ≡ done t →
        Grown (when_some rows (plain_event (soon c) (resets_of img target) ∷ [])) u t
    some u [] d = grown_same u t (alone u u refl d)
    some u (j ∷ js) d = bind_done (delayed c) _ d λ there e r. rw e (accepted_grown img u (plain_event there (resets_of img target)) t r)

-- ---- the whole

pub transition_grown : (img : Image) (r m : ℕ) (reset : Bool) (c : Tag) (s t : State) → transition img r m reset c s ≡ done t → Grown (transition_events img r m reset c s) (prepared img r m reset s) t
unfolding transition turns_on transition_events plan_of
transition_grown img r m reset c s t d =
    let s2 = prepared img r m reset s in
    let ins = inside_of img reset (mode_scope img m) in
    let p = plan_of img c ins s2 in
    let first = firsts img p s2 in
    let target = mode_scope img m in
    bind_done (walk (turned img p) s2 (from 0 (scopes img))) _ d λ u e f.
    bind_done (step4 img p.c first u) _ f λ v x y.
    grown_then s2 v t (startup_events img c first) (timer_events img ins ++ reset_events img c target ins)
    (step4_grown img c first u v x ∙ ap (◌++ startup_events img c first) (alone_walk (turned img p) (turned_alone img p) (from 0 (scopes img)) s2 u e))
    (step5_grown img c target ins v t y)

-- step 1 drops the events of the subtree; a history transition drops none
pub reset_bares : (img : Image) (r m : ℕ) (s : State) → bares (prepared img r m true s) ≡ lose (dropped (inside_of img true (mode_scope img m))) (bares s)
unfolding prepared step1 without dropped
reset_bares img r m s = map_lose bare (dropped (inside_of img true (mode_scope img m))) s.waiting

pub history_bares : (img : Image) (r m : ℕ) (s : State) → bares (prepared img r m false s) ≡ bares s
unfolding prepared
history_bares img r m s = refl
