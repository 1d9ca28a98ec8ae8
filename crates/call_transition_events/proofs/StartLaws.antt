-- Laws for the returns and loops of crate call_transition_events. Assumes nothing.
use mathlib.Core.Bool.{Bool, true, false, cond, not, ◌&&◌, ◌||◌}
use mathlib.Core.Path.{◌≡◌, refl, ap, ◌∙◌, sym}
use mathlib.Core.List.{List, [], ◌∷◌}
use Prim.Native.Nat.{ℕ, ◌+◌, ◌≤◌, ◌<◌}
use Rattle.std.specs.Prelude.{Ok, Err}
use Rattle.std.specs.Prelude as code
use native.Mathlib.Nat.{sub-zero}
use native.Mathlib.Omega.{arith}
use lib.Dec.{leb, eqb}
use lib.ListN.{get_or}
use borrow.Author.Tests.{le-leb, lt-ltb, leb-false}
use Rattle.lists.specs.Lists.{keep, any, from, count_shorter}
use Rattle.lists.specs.Ranges.{those}
use Rattle.lists.proofs.Ranges.{those_same, those_any}
use Rattle.lists.specs.Every.{by_test}
use Rattle.lists.specs.Walk.{done, refused, ◌>>=◌, walk}
use Rattle.refusals.specs.declared.Refusal.{Refusal}
use Rattle.refusals.specs.declared.Refusal.TheVariants as R
use Rattle.table_rows.specs.Bytes.{Image}
use Rattle.table_rows.specs.Limits.{limits}
use Rattle.table_rows.specs.Kinds as K
use Rattle.table_rows.specs.Kinds.{count}
use Rattle.table_rows.specs.Rows.{startup_scope, startup_action, reset_scope, timer_action}
use Rattle.table.specs.Check.{is_table}
use Rattle.table.specs.Rules.{timer_tag}
use Rattle.table.proofs.TableLaws.{startup_scope_lem, reset_scope_lem, timer_action_lem, action_scope_lem}
use Rattle.machine_rules_kept.specs.Kept.{table_is}
use Rattle.tags.specs.Tags.{Tag, Clock, MappedAnswer, delayed, to_global, tag_only, image_of}
use Rattle.tags.specs.Views.{of_global}
use Rattle.tags.specs.declared.GlobalTag.{GlobalTag}
use Rattle.key_set.specs.declared.KeySet.{KeySet}
use Rattle.key_set.specs.Sets.{has}
use Rattle.table_schedule.specs.Schedule.{startups_of, resets_of, triggers_of}
use Rattle.store.specs.Store.{pushed}
use Rattle.store_calls.specs.declared.Changed.{Changed}
use Rattle.store_calls.specs.Lent.{store_of, Did}
use Rattle.state_queues.specs.Queue.{accepted_at, accepted_in}
use Rattle.machine.specs.Table.{scopes}
use Rattle.machine.specs.State.{Event, State, ordinary, ever_at, tally, accepted}
use Rattle.machine.specs.Transition.{Step, if_some, held, plain_event, firsts, startup_rows, startups, step4, timer_scope, timer_image, timer_event, timer, timer_rows, reset_rows, reset_event}
use Rattle.state_events.specs.Slots as slot
use Rattle.state_events.specs.Slots.{events_of, room_for_events}
use Rattle.state_room.specs.declared.Counts.{Counts}
use Rattle.state_room.specs.PartRows.{Shows}
use Rattle.state_room.specs.Holds.{Rows, Holds, Held, Outcome, After, Steps, not_both, steps_refused, steps_same, shows}
use Rattle.state_room.specs.Parts.{Good, queue_in, store_in, push_holds, push_step, more_waits, more_step, changed}
use Rattle.state_room.proofs.Parts.{holds_good, steps_by}
use Rattle.call_transition_plan.specs.declared.Plan.{Plan}
use Rattle.call_transition_plan.specs.Plans.{plan_in, Marks}
use Rattle.call_transition_plan.proofs.PlanLaws.{map_at, marks_in}
use Rattle.call_transition_events.specs.declared.Chosen.{Chosen}
use Rattle.call_transition_events.specs.Starting.{first_time, keys_of, row_in, some_row, startups_on, value_step, event_step}
use Rattle.call_transition_events.specs.Starting.{timers_on, resets_on, timer_step, put_step, clock_in, image_in, all_values, all_timers, startups_at}

-- ---- a walk over those rows that are chosen

bind_same : (r : Step) (k l : State → Step) → ((t : State) → k t ≡ l t) → (r >>= k) ≡ (r >>= l)
bind_same (done t) k l h = h t
bind_same (refused x) k l h = refl

-- a walk over those that pass is one over all that does nothing for the others
walk_keep : (f : State → ℕ → Step) (p : ℕ → Bool) (l : List ℕ) (s : State) → walk f s (keep p l) ≡ walk (λ s j. cond (p j) (f s j) (done s)) s l
unfolding walk keep
walk_keep f p [] s = refl
walk_keep f p (j ∷ l) s = go (p j) (f s j) (λ t. walk_keep f p l t)
  where
    go : (b : Bool) (r : Step) → ((t : State) → walk f t (keep p l) ≡ walk (λ s j. cond (p j) (f s j) (done s)) t l) →
        walk f s (cond b (j ∷ keep p l) (keep p l)) ≡ (cond b (f s j) (done s) >>= λ t. walk (λ s j. cond (p j) (f s j) (done s)) t l)
    go true r h = bind_same (f s j) _ _ h
    go false r h = h s

-- where a step is refused its rows may be any
pub steps_refused_by : (img : Image) (f : State → Step) (a b : Rows) (n : Refusal) (z : Rows) → Steps img f a (Err n) b → Steps img f a (Err n) z
steps_refused_by img f a b n z h s k = go (f s) (h s k)
  where
    go : (r : Step) → After img r (Err n) b → After img r (Err n) z
    go (done t) x = not_both (sym x.0)
    go (refused m) x = x

-- ---- one value, one event

module _ (img : Image) (a : Rows) (k : Held img a) where
  held_good : Good (limits img).held a.events a.values a.buckets a.ledger.counts a.ledger.held
  held_good = holds_good img k.state a k.holds

  abbrev counts : Counts
  counts = a.ledger.counts

  pub hold_steps : (x : ℕ) (t : Tag) (vs bs : List ℕ) (m : Changed) →
      Did a.values a.buckets a.ledger.held (pushed (limits img).held (store_of a.values a.buckets a.ledger.held) x t 0) vs bs m →
      Steps img (held img x t) a m.outcome (changed a a.events vs bs counts m.held)
  hold_steps x t vs bs m d =
      let g = held_good in
      steps_by img (held img x t) a m.outcome a.events vs bs counts m.held
      (record { waits = g.waits; keeps = push_holds img _ _ _ g.keeps x t vs bs m d })
      (λ s v. push_step img _ _ _ g.keeps x t vs bs m d (queue_in s a.events counts))

  pub work_fits : counts.work ≤ room_for_events
  work_fits = omega (arith, k.holds.queued.work, k.holds.counted, k.holds.few, count_shorter ordinary k.state.waiting)

  module _ (e : Event) (es : List ℕ) {limit : ℕ} (l : limit ≡ (limits img).waiting) (o : slot.Held es (accepted_in limit counts.waiting e (events_of a.events)))
      {q : code.Result ℕ Refusal} (p : q ≡ accepted_at limit counts.waiting) where
    pub accept_count : {m n : ℕ} → q ≡ Ok m → n ≡ tally e counts.work →
        Steps img (λ s. accepted img s e) a (Ok tt) (changed a es a.values a.buckets (record { waiting = m; work = n }) a.ledger.held)
    accept_count {m} {n} f h =
        by_test (leb limit counts.waiting)
        (λ t. absurd (let r : Ok m ≡ Err R.Waiting = sym f ∙ p ∙ rw t in let z : ◌≡◌ {A = ℕ} 0 1 = cc in omega arith))
        λ t.
        let r : Ok m ≡ Ok (counts.waiting + 1) = sym f ∙ p ∙ rw t in
        let i : m ≡ counts.waiting + 1 = cc in
        let g = held_good in
        let w : counts.waiting < (limits img).waiting = rw l at (leb-false limit counts.waiting t) in
        let last = rw t at o in
        let c : Counts = record { waiting = m; work = n } in
        steps_by img (λ s. accepted img s e) a (Ok tt) es a.values a.buckets c a.ledger.held
        (record { waits = more_waits _ _ g.waits e es last img w c i h; keeps = g.keeps })
        (λ s v. more_step _ _ g.waits e es last img w c i h (store_in s a.values a.buckets a.ledger.held))

    pub accept_refused : {x : Refusal} (b : Rows) → q ≡ Err x → Steps img (λ s. accepted img s e) a (Err x) b
    unfolding accepted
    accept_refused {x} b f =
        by_test (leb limit counts.waiting)
        (λ t.
        let r : Err x ≡ Err R.Waiting = sym f ∙ p ∙ rw t in
        let i : R.Waiting ≡ x = cc in
        steps_refused img (λ s. accepted img s e) a b λ s h. rw (← h.queued.waiting, ← l, t) (ap refused i))
        (λ t. absurd (let r : Err x ≡ Ok (counts.waiting + 1) = sym f ∙ p ∙ rw t in let z : ◌≡◌ {A = ℕ} 0 1 = cc in omega arith))

-- ---- lists of rows

keep_same : (p q : ℕ → Bool) (n : ℕ) → ((j : ℕ) → j < n → p j ≡ q j) → keep p (from 0 n) ≡ keep q (from 0 n)
unfolding those
keep_same p q n h = let e = those_same p q n h 0 in rw sub-zero at e

any_key : (p : ℕ → Bool) (x n : ℕ) → x < n → any (eqb x) (keep p (from 0 n)) ≡ p x
unfolding those
any_key p x n h = let e = those_any p n x 0 in (rw sub-zero at e) ∙ rw (le-leb 0 x (omega arith), lt-ltb x n h)

-- some row passes, or none
some_is : (p : ℕ → Bool) (a b : Step) (l : List ℕ) → if_some (keep p l) a b ≡ cond (any p l) b a
unfolding any keep
some_is p a b [] = refl
some_is p a b (j ∷ l) = go (p j) (some_is p a b l)
  where
    go : (x : Bool) → if_some (keep p l) a b ≡ cond (any p l) b a → if_some (cond x (j ∷ keep p l) (keep p l)) a b ≡ cond (x || any p l) b a
    go true h = refl
    go false h = h

module _ (img : Image) where
  -- ---- step 4

  module _ (f : Chosen) (a : Rows) where
    abbrev chosen : List ℕ
    chosen = f.set.words

    abbrev there : Tag
    there = of_global f.there

    module _ (j : ℕ) where
      pub value_none : has chosen (startup_scope img j) ≡ false → Steps img (λ s. value_step img f s j) a (Ok tt) a
      unfolding value_step
      value_none e s k = rw e (refl, k)

      pub value_held : {x : ℕ} (o : Outcome) (b : Rows) → has chosen (startup_scope img j) ≡ true → x ≡ startup_action img j → Steps img (held img x there) a o b →
          Steps img (λ s. value_step img f s j) a o b
      unfolding value_step
      value_held o b e q h s k = rw (e, ← q) (h s k)

    module _ (i : ℕ) where
      pub event_none : has chosen i ≡ false → Steps img (λ s. event_step img f s i) a (Ok tt) a
      unfolding event_step
      event_none e s k = rw e (refl, k)

      pub event_made : {ks : List ℕ} {x : Event} (o : Outcome) (b : Rows) → has chosen i ≡ true → ks ≡ startups_of img i → x ≡ plain_event there ks →
          Steps img (λ s. accepted img s x) a o b → Steps img (λ s. event_step img f s i) a o b
      unfolding event_step
      event_made o b e q r h s k = rw (e, ← q, ← r) (h s k)

  module _ (first : KeySet) where
    abbrev asked : ℕ → Bool
    asked = row_in img K.startup first.words

    abbrev rows : List ℕ
    rows = from 0 (count img K.startup)

    startup_rows_lem : is_table img ≡ true → startup_rows img (keys_of img first.words) ≡ keep asked rows
    unfolding startup_rows
    startup_rows_lem t = keep_same _ asked (count img K.startup) λ j h. any_key (has first.words) (startup_scope img j) (scopes img) (startup_scope_lem img (table_is img t) j h)

    walk_startups : (x : GlobalTag) (s : State) →
        startups img (of_global x) (keys_of img first.words) (keep asked rows) s ≡ startups_at img (record { set = first; there = x }) s
    unfolding startups value_step event_step
    walk_startups x s =
        let f : Chosen = record { set = first; there = x } in
        rw (walk_keep (λ t j. held img (startup_action img j) (of_global x) t) asked rows s)
        (bind_same (all_values img f s) _ _ (walk_keep (λ u i. accepted img u (plain_event (of_global x) (startups_of img i))) (has first.words) (from 0 (scopes img))))

    module _ (p : Plan) (a : Rows) where
      pub startups_none : some_row img K.startup first.words ≡ false → Steps img (startups_on img p first.words) a (Ok tt) a
      unfolding step4
      startups_none e s k = rw (startup_rows_lem k.table, some_is asked _ _ rows, e) (refl, k)

      module _ (e : some_row img K.startup first.words ≡ true) (b : Rows) where
        pub startups_refused : {x : Refusal} → refused x ≡ delayed (of_global p.c) → Steps img (startups_on img p first.words) a (Err x) b
        unfolding step4
        startups_refused q s k = rw (startup_rows_lem k.table, some_is asked _ _ rows, e, ← q) refl

        pub startups_all : {x : GlobalTag} (o : Outcome) → done (of_global x) ≡ delayed (of_global p.c) → Steps img (startups_at img (record { set = first; there = x })) a o b →
            Steps img (startups_on img p first.words) a o b
        unfolding step4
        startups_all {x} o q r s k = rw (startup_rows_lem k.table, some_is asked _ _ rows, e, ← q, walk_startups) (r s k)

  -- the machine's first-time scopes, where its marks are the rows'
  pub firsts_are : (p : Plan) (ws set : List ℕ) (s : State) → Marks (first_time p.now.words ws) (scopes img) set → Shows s ws →
      firsts img (plan_in img p) s ≡ keys_of img set
  unfolding firsts
  firsts_are p ws set s m h =
      keep_same _ _ (scopes img) λ i l.
      ap (◌&& not (ever_at s i)) (map_at (has p.now.words) (scopes img) i false l) ∙
      ap (λ x. has p.now.words i && not x.ever) (sym (h i)) ∙ sym (marks_in _ (scopes img) set m i l)

  -- ---- step 5

  module _ (j : ℕ) where
    pub image_mapped :
        (ws : List ℕ) {i : ℕ} {x : Tag} {k : Clock} {a : MappedAnswer} → i ≡ timer_scope img j → x ≡ timer_tag img j → k ≡ clock_in ws i → a ≡ to_global k x → tag_only a ≡ image_in img ws j
    unfolding image_in
    image_mapped ws e h q r = ap tag_only r ∙ rw (← e, ← h, q)

    pub timer_event_lem :
        (g : Tag) {q a : ℕ} {x : Tag} {ks : List ℕ} → a ≡ timer_action img j → q ≡ timer_scope img j → x ≡ timer_tag img j → ks ≡ triggers_of img a →
        record { queue = q; tag = x; reactions = ks; terminal = false; control = false; network = false; action = a; stored = g } ≡ timer_event img j g
    unfolding timer_event
    timer_event_lem g e f k l = rw (k, l, f, e)

    module _ (set : List ℕ) (a : Rows) where
      pub timer_none : has set (timer_scope img j) ≡ false → Steps img (λ s. timer_step img set s j) a (Ok tt) a
      unfolding timer_step
      timer_none e s k = rw e (refl, k)

      same_image : (s : State) → Holds img s a → timer_image img s j ≡ image_in img a.scopes j
      unfolding timer_image image_in
      same_image s k =
          ap (λ x. image_of x.clock (timer_tag img j)) (sym (shows img s a k (timer_scope img j)))

      module _ (e : has set (timer_scope img j) ≡ true) (b : Rows) where
        pub timer_refused : {x : Refusal} → refused x ≡ image_in img a.scopes j → Steps img (λ s. timer_step img set s j) a (Err x) b
        unfolding timer_step timer
        timer_refused q s k = rw (e, same_image s k, ← q) refl

        pub timer_put : {g : GlobalTag} {x : Event} (o : Outcome) → done (of_global g) ≡ image_in img a.scopes j → x ≡ timer_event img j (of_global g) → Steps img (put_step img x) a o b →
            Steps img (λ s. timer_step img set s j) a o b
        unfolding timer_step timer put_step timer_event
        timer_put o q f r s k = rw (e, same_image s k, ← q) (let z = r s k in rw f at z)

  module _ (p : Plan) (a : Rows) where
    abbrev inside : List ℕ
    inside = p.inside.words

    at_row : (i : ℕ) → i < scopes img → get_or (plan_in img p).inside i false ≡ has inside i
    at_row i h = map_at (has inside) (scopes img) i false h

    pub timers_are : (o : Outcome) (b : Rows) → Steps img (all_timers img inside) a o b → Steps img (timers_on img p) a o b
    unfolding timer_rows timer_step
    timers_are o b h =
        let asked : ℕ → Bool = λ j. has inside (timer_scope img j) in
        steps_same img _ a o b _
        (λ s k.
        let t = table_is img k.table in
        ap (walk (timer img) s) (keep_same _ asked (count img K.timer) λ j l. at_row (timer_scope img j) (action_scope_lem img t (timer_action img j) (timer_action_lem img t j l))) ∙
        walk_keep (timer img) asked (from 0 (count img K.timer)) s)
        h

    abbrev marked : ℕ → Bool
    marked = row_in img K.reset inside

    reset_rows_lem : is_table img ≡ true → reset_rows img (plan_in img p).inside ≡ keep marked (from 0 (count img K.reset))
    unfolding reset_rows
    reset_rows_lem t = keep_same _ marked (count img K.reset) λ j h. at_row (reset_scope img j) (reset_scope_lem img (table_is img t) j h)

    pub resets_none : some_row img K.reset inside ≡ false → Steps img (resets_on img p) a (Ok tt) a
    unfolding reset_event
    resets_none e s k = rw (reset_rows_lem k.table, some_is marked _ _ (from 0 (count img K.reset)), e) (refl, k)

    module _ (e : some_row img K.reset inside ≡ true) (b : Rows) where
      pub resets_refused : {x : Refusal} → refused x ≡ delayed (of_global p.c) → Steps img (resets_on img p) a (Err x) b
      unfolding reset_event
      resets_refused q s k = rw (reset_rows_lem k.table, some_is marked _ _ (from 0 (count img K.reset)), e, ← q) refl

      pub resets_made : {x : GlobalTag} {ks : List ℕ} {v : Event} (o : Outcome) → done (of_global x) ≡ delayed (of_global p.c) → ks ≡ resets_of img p.target → v ≡ plain_event (of_global x) ks →
          Steps img (λ s. accepted img s v) a o b → Steps img (resets_on img p) a o b
      unfolding reset_event
      resets_made o q f g r s k = rw (reset_rows_lem k.table, some_is marked _ _ (from 0 (count img K.reset)), e, ← q, ← f, ← g) (r s k)
