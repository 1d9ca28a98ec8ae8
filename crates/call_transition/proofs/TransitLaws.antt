-- A transition's whole from its parts: the refusals, the plan, and the steps on the room. Assumes nothing.
use mathlib.Core.Bool.{Bool, true, false, cond, ◌&&◌}
use mathlib.Core.Path.{◌≡◌, refl, ap, ◌∙◌, sym, subst}
use mathlib.Core.List.{List}
use Prim.Native.Nat.{ℕ, ◌<◌}
use Rattle.std.specs.Prelude.{Ok, Err, is_err}
use lib.Dec.{ltb, eqb}
use lib.ListN.{length, get_or, take}
use borrow.Author.Tests.{ltb-true, ne_eqb, eq-eqb}
use Rattle.lists.specs.Tests.{and_left, and_no, yes_no}
use Rattle.lists.specs.Every.{either_is}
use Rattle.lists.specs.Walk.{done, refused, ◌>>=◌}
use Rattle.refusals.specs.declared.Refusal.{Refusal}
use Rattle.refusals.specs.declared.Refusal.TheVariants as R
use Rattle.table_rows.specs.Bytes.{Image}
use Rattle.table_rows.specs.Rows.{mode_scope, mode_reactor}
use Rattle.tags.specs.Tags.{within}
use Rattle.tags.specs.Views.{of_global}
use Rattle.key_set.specs.Sets.{has}
use Rattle.machine.specs.Table.{scopes, reactors, modes}
use Rattle.machine.specs.State.{State, with_modes, without}
use Rattle.machine.specs.Transition as T
use Rattle.machine.specs.Transition.{Step, inside_of, prepared, plan_of, transition}
use Rattle.machine.specs.Machine.{ok, refusal, perform, settle}
use Rattle.state_room.specs.Holds.{Rows, Holds, Held, Outcome, After, Steps, Answers, Performs, reply_of, modes_are, shows, not_both}
use Rattle.state_room.specs.PartRows.{most_reactors}
use Rattle.state_room.specs.Padded.{padded_length}
use Rattle.state_room.specs.Parts.{finished, remoded, with_ledger, modes_hold}
use Rattle.call_transition_plan.specs.declared.Plan.{Plan}
use Rattle.call_transition_plan.specs.declared.Request.{Request}
use Rattle.call_transition_plan.specs.Plans.{plan_in, Marks, Planned}
use Rattle.call_transition_plan.proofs.PlanLaws.{marks_map, planned_inside, planned_plan, planned_modes, prepared_long}
use Rattle.call_transition_resets.specs.Resetting.{cleared}
use Rattle.call_transition_resets.proofs.ResetLaws.{none_cleared, step1_is}
use Rattle.call_transition_events.specs.Starting.{first_time, restarts_on}
use Rattle.call_transition_events.proofs.StartLaws.{firsts_are}
use Rattle.call_transition_scopes.specs.Turns.{all_turns}
use Rattle.call_transition.specs.Transiting.{call_of, refusal_of, starts_on, turns_on, steps_on}

-- ---- refusals before anything changes

module _ (img : Image) (q : Request) {known : Bool} (k : known ≡ (ltb q.reactor (reactors img) && ltb q.mode (modes img))) where
  pub refused_key : known ≡ false → Err R.Key ≡ refusal_of img q
  unfolding refusal_of
  refused_key e = sym (rw (sym k ∙ e))

  module _ (e : known ≡ true) {owner : ℕ} (o : owner ≡ mode_reactor img q.mode) where
    pub refused_target : (owner ≡ q.reactor → ⊥) → Err R.TargetMode ≡ refusal_of img q
    unfolding refusal_of
    refused_target n = sym (rw (sym k ∙ e, ← o, ne_eqb owner q.reactor n))

    module _ (m : owner ≡ q.reactor) {fits : Bool} (f : fits ≡ within (of_global q.c)) where
      pub refused_tag : fits ≡ false → Err R.ArgumentTag ≡ refusal_of img q
      unfolding refusal_of
      refused_tag n = sym (rw (sym k ∙ e, ← o, eq-eqb owner q.reactor m, sym f ∙ n))

      pub refused_none : fits ≡ true → (Ok tt) ≡ refusal_of img q
      unfolding refusal_of
      refused_none n = sym (rw (sym k ∙ e, ← o, eq-eqb owner q.reactor m, sym f ∙ n))

-- a room has a place for each reactor that may be
pub modes_full : (img : Image) (r : Rows) → Held img r → length r.ledger.modes ≡ most_reactors
modes_full img r k = rw k.holds.moded (padded_length 0 most_reactors k.state.modes)

-- ---- steps 1 and 2 as the plan has them

module _ (img : Image) (old : List ℕ) (q : Request) (p : Plan) (h : Planned img old q p) where
  abbrev ins : List Bool
  ins = (plan_in img p).inside

  ins_are : ins ≡ inside_of img q.reset (mode_scope img q.mode)
  ins_are = marks_map _ (scopes img) p.inside.words h.inside

  inner : (i : ℕ) → has p.inside.words i ≡ get_or ins i false
  inner i = planned_inside img old q p h i ∙ ap (λ l. get_or l i false) (sym ins_are)

  module _ (n : q.reset ≡ false) where
    none_in : (i : ℕ) → has p.inside.words i ≡ false
    none_in i = h.inside.is i ∙ rw n (and_no (ltb i (scopes img)))

    history : (s : State) → cleared img ins s ≡ s
    history s = none_cleared img p.inside.words ins inner none_in s

  cleared_modes : (s : State) (ms : List ℕ) → cleared img ins (with_modes s ms) ≡ with_modes (cleared img ins s) ms
  unfolding without
  cleared_modes s ms = refl

  pub prepared_is : (s : State) → cleared img ins (with_modes s (prepared img q.reactor q.mode q.reset s).modes) ≡ prepared img q.reactor q.mode q.reset s
  unfolding prepared
  prepared_is s = cleared_modes s (prepared img q.reactor q.mode q.reset s).modes ∙ sym (go q.reset refl)
    where
      go : (b : Bool) → q.reset ≡ b → prepared img q.reactor q.mode b s ≡ with_modes (cleared img ins s) (prepared img q.reactor q.mode b s).modes
      go true e =
          let l = ins_are ∙ ap (λ b. inside_of img b (mode_scope img q.mode)) e in
          let ms = (prepared img q.reactor q.mode true s).modes in
          ap (λ t. with_modes t ms) (step1_is img (mode_scope img q.mode) (inside_of img true (mode_scope img q.mode)) s) ∙ ap (λ l. with_modes (cleared img l s) ms) (sym l)
      go false e = ap (λ t. with_modes t (prepared img q.reactor q.mode false s).modes) (sym (history e s))

  abbrev modes_after : State → List ℕ
  modes_after s = (prepared img q.reactor q.mode q.reset s).modes

  abbrev wanted : State → Step
  wanted s = transition img q.reactor q.mode q.reset (of_global q.c) s

  transition_is : (s : State) → s.modes ≡ take (reactors img) old → steps_on img p (with_modes s (modes_after s)) ≡ wanted s
  unfolding transition
  transition_is s e =
      let t = cleared img ins (with_modes s (modes_after s)) in
      let target = mode_scope img q.mode in
      ap (λ x. T.turns_on img x (plan_in img p) t) h.target ∙
      ap (λ x. T.turns_on img target x t) (planned_plan img old q p h s e) ∙
      ap (λ x. T.turns_on img target (plan_of img (of_global q.c) (inside_of img q.reset target) (prepared img q.reactor q.mode q.reset s)) x) (prepared_is s)

  -- on the room, the modes set first
  module _ (r : Rows) (m : r.ledger.modes ≡ old) where
    abbrev planned : Rows
    planned = with_ledger r (remoded r.ledger p.modes)

    as_given : (s : State) → Holds img s r → s.modes ≡ take (reactors img) old
    as_given s k = rw (← m) (sym (modes_are img s r k))

    pub moded_holds : (s : State) → Holds img s r → Holds img (with_modes s (modes_after s)) planned
    moded_holds s k = modes_hold img s r k (modes_after s) p.modes (planned_modes img old q p h s (as_given s k)) (prepared_long img old q s k.modes_long)

    pub moded_held : Held img r → Held img planned
    moded_held k = record { state = with_modes k.state (modes_after k.state); holds = moded_holds k.state k.holds }

    pub moded_steps : (o : Outcome) (after : Rows) → Steps img (steps_on img p) planned o after → Steps img wanted r o after
    moded_steps o after k s w = subst (λ x. After img x o after) (transition_is s (as_given s w)) (k (with_modes s (modes_after s)) (moded_holds s w))

-- ---- the whole

module _ (img : Image) (q : Request) where
  pub allowed_known : refusal_of img q ≡ (Ok tt) → q.reactor < reactors img
  unfolding refusal_of
  allowed_known e =
      either_is (ltb q.reactor (reactors img) && ltb q.mode (modes img)) e
      (λ y z. ltb-true q.reactor (reactors img) (and_left (ltb q.reactor (reactors img)) _ y))
      (λ y z. not_both (sym z))

  -- each test of the machine's, and the same of the code's
  perform_is : (s : State) (o : Outcome) → refusal_of img q ≡ o →
      perform img s (call_of q) ≡ settle s (finished o s >>= λ t. transition img q.reactor q.mode q.reset (of_global q.c) s)
  unfolding refusal_of perform
  perform_is s o e = rw (← e) (go (ltb q.reactor (reactors img) && ltb q.mode (modes img)) (eqb (mode_reactor img q.mode) q.reactor) (within (of_global q.c)))
    where
      wanted : Step
      wanted = transition img q.reactor q.mode q.reset (of_global q.c) s

      go : (a b d : Bool) →
          settle s (cond a (cond b (cond d wanted (refused R.ArgumentTag)) (refused R.TargetMode)) (refused R.Key)) ≡
          settle s (finished (cond a (cond b (cond d (Ok tt) (Err R.ArgumentTag)) (Err R.TargetMode)) (Err R.Key)) s >>= λ t. wanted)
      go true true true = refl
      go true true false = refl
      go true false d = refl
      go false b d = refl

  -- refused before anything changed
  pub early_refused : {o : Outcome} {n : Refusal} (r : Rows) → o ≡ refusal_of img q → o ≡ Err n → Performs img (call_of q) r (reply_of o) r
  early_refused {o} r e f s w = let x = perform_is s o (sym e) in rw (x, f) (record { reply_is = refl; holds = w })

  module _ {o : Outcome} (e : o ≡ refusal_of img q) (f : o ≡ (Ok tt)) (x : Outcome) (before after : Rows)
      (k : Steps img (λ s. transition img q.reactor q.mode q.reset (of_global q.c) s) before x after) where
    -- done: the rows after it
    pub performs_done : x ≡ (Ok tt) → Performs img (call_of q) before (reply_of x) after
    performs_done d s w = rw (perform_is s (Ok tt) (sym e ∙ f), d) (go (transition img q.reactor q.mode q.reset (of_global q.c) s) (k s w))
      where
        go : (a : Step) → After img a x after → Answers img (settle s a) ok after
        go (done t) y = record { reply_is = refl; holds = y.1 }
        go (refused n) y = not_both (sym d ∙ y)

    -- refused: the rows as they were
    pub performs_refused : {n : Refusal} {back : Rows} → back ≡ before → x ≡ Err n → Performs img (call_of q) before (reply_of x) back
    performs_refused {n} {back} b d s w =
        rw (perform_is s (Ok tt) (sym e ∙ f), d) (go (transition img q.reactor q.mode q.reset (of_global q.c) s) (k s w))
      where
        go : (a : Step) → After img a x after → Answers img (settle s a) (refusal n) back
        go (done t) y = not_both (sym y.0 ∙ d)
        go (refused m) y = record { reply_is = ap (λ o. reply_of o) (sym d ∙ y); holds = rw b w }

-- the code's outcome, by its test
pub outcome_ok : (o : Outcome) → is_err o ≡ false → o ≡ Ok tt
outcome_ok (Ok u) e = refl
outcome_ok (Err n) e = absurd (yes_no refl e)

pub outcome_err : (o : Outcome) → is_err o ≡ true → (n : Refusal) × (o ≡ Err n)
outcome_err (Ok u) e = absurd (yes_no e refl)
outcome_err (Err n) e = (n, refl)

-- ---- steps 3 to 5

pub turns_steps : (img : Image) (p : Plan) (set : List ℕ) (r : Rows) → Marks (first_time p.now.words r.scopes) (scopes img) set → (o : Outcome) (after : Rows) →
    Steps img (λ s. all_turns img p s >>= starts_on img p set) r o after → Steps img (turns_on img p) r o after
unfolding T.turns_on
turns_steps img p set r m o after k s w =
    subst (λ l. After img (all_turns img p s >>= λ t. T.step4 img (of_global p.c) l t >>= restarts_on img p) o after)
    (sym (firsts_are img p r.scopes set s m (shows img s r w))) (k s w)
