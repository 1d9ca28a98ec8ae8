-- Document 01, "State rules", and refusal 11: a fresh manager over an accepted table keeps them, and so does every call; so 11 is never answered there.
-- Assumes nothing.
use Rattle.std.specs.Prelude.{ℕ, ◌<◌, ◌≤◌, Bool, false, ◌&&◌, ◌≡◌, refl, List, [], ◌∷◌, map, leb, eqb, Ok, Err}
use Rattle.std.proofs.Math.Bool.{true, not}
use Rattle.std.specs.Bool.{beq}
use Rattle.std.proofs.Common.{ap, ◌∙◌, sym}
use native.Mathlib.Omega.{arith}
use Rattle.std.proofs.Math.Decide.{dec_lt}
use Rattle.std.proofs.Math.ListN.{length, get_or-map, get_or-eq_default}
use Rattle.std.proofs.lemmas.List.{length-map}
use borrow.Author.Tests.{leb-true, le-leb, eqb-true, eq-eqb}
use Rattle.lists.specs.Tests.{and_left, and_right}
use Rattle.lists.specs.Lists.{count, every, from}
use Rattle.table_rows.specs.Bytes.{Image}
use Rattle.table_rows.specs.Limits.{limits}
use Rattle.table_rows.specs.Rows.{initial_mode}
use Rattle.table.specs.Check.{Checked, check}
use Rattle.table.specs.Table.{Table}
use Rattle.table.proofs.TableLaws.{table_of}
use Rattle.tags.specs.Tags.{fresh_clock, within_clock}
use Rattle.table_schedule.specs.Schedule.{is_active}
use Rattle.table.specs.Check.{accepts, is_table}
use Rattle.machine.specs.Table.{scopes, reactors, actions}
use Rattle.machine.specs.State.{Event, State, fresh_scope, ordinary, active_at, ever_at, fresh}
use Rattle.machine.specs.Machine.{Call, scope_rules, mode_rules, queue_rules, event_rules, image_rules, sized, rules, perform, step, run}
use Rattle.lists.specs.Every.{by_test, no_way, both, or_left, or_right, or_else_lem, every_all, every_imp, every_both, every_map, length_from, every_below, below_every, get_or_from}
use Rattle.machine_rules_kept.specs.Stored.{empty_rules}
use Rattle.machine_rules_kept.specs.Limits.{fresh_within}
use Rattle.machine_rules_kept.specs.Sound.{proper}
use Rattle.machine_rules_kept.specs.Prepared.{initial_exists}
use Rattle.machine_rules_kept.specs.Steps.{Ruled}
use Rattle.machine_rules_kept.specs.Calls.{perform_ruled}

same_bool : (a b : Bool) → beq a b ≡ true → a ≡ b
same_bool true true e = refl
same_bool true false e = sym e
same_bool false true e = e
same_bool false false e = refl

bool_same : (a b : Bool) → a ≡ b → beq a b ≡ true
bool_same true b e = rw (← e)
bool_same false b e = rw (← e)

-- an image that passes is a table
pub table_is : (img : Image) → is_table img ≡ true → Table img
unfolding is_table
table_is img h = table_of img (go (check img) h)
  where
    go : (a : Checked) → accepts a ≡ true → a ≡ Ok tt
    go (Ok _) e = refl
    go (Err n) e = no_way e

-- ---- the test and the facts

module _ (img : Image) (s : State) where
  pub rules_pass : is_table img ≡ true → Ruled img s → rules img s ≡ true
  unfolding rules sized
  rules_pass t h =
      let q = h.sound.queued in
      simp (
        t,
        eq-eqb _ _ h.sound.moded.long,
        eq-eqb _ _ h.sound.scoped.long,
        h.sound.moded.exist,
        h.sound.scoped.fit,
        le-leb _ _ q.room,
        every_below (scope_rules img s.modes s.scopes) (scopes img) scope,
        each (event_rules img) (unfold proper in λ e p. and_left (event_rules img e) _ p),
        each (queue_rules img) (unfold proper in λ e p. and_left (queue_rules img e) _ (and_right (event_rules img e) _ p)),
        each (image_rules s.scopes) (unfold proper in λ e p. and_right (queue_rules img e) _ (and_right (event_rules img e) _ p)),
        eq-eqb _ _ q.work,
      ) h.sound.stored
    where
      each : (p : Event → Bool) → ((e : Event) → proper img s e ≡ true → p e ≡ true) → every p s.waiting ≡ true
      each p f = every_imp (proper img s) p f s.waiting h.sound.queued.events

      scope : (i : ℕ) → i < scopes img → scope_rules img s.modes s.scopes i ≡ true
      scope i l = unfold scope_rules in
          both (bool_same _ _ (h.current i l)) (by_test (active_at s i) (λ e. or_right (not (active_at s i)) (h.sound.scoped.before i e)) (λ e. or_left _ (ap not e)))

  pub rules_tell : rules img s ≡ true → Ruled img s
  unfolding rules sized proper
  rules_tell h =
      let a = and_right (is_table img) _ h in
      let z = and_left (sized img s) _ a in
      let b = and_right (sized img s) _ a in
      let c = and_right (every (mode_rules img) s.modes) _ b in
      let d = and_right (every (λ x. within_clock x.clock) s.scopes) _ c in
      let e = and_right (leb (length s.waiting) (limits img).waiting) _ d in
      let f = and_right (every (scope_rules img s.modes s.scopes) (from 0 (scopes img))) _ e in
      let g = and_right (every (event_rules img) s.waiting) _ f in
      let i = and_right (every (queue_rules img) s.waiting) _ g in
      let j = and_right (every (image_rules s.scopes) s.waiting) _ i in
      let scope = below_every (scope_rules img s.modes s.scopes) (scopes img) (and_left (every (scope_rules img s.modes s.scopes) (from 0 (scopes img))) _ e) in
      let long = eqb-true (length s.scopes) (scopes img) (and_right (eqb (length s.modes) (reactors img)) _ z) in
      record {
        sound =
            record {
              moded = record { long = eqb-true (length s.modes) (reactors img) (and_left (eqb (length s.modes) (reactors img)) _ z); exist = and_left (every (mode_rules img) s.modes) _ b };
              scoped = record { long = long; fit = and_left (every (λ x. within_clock x.clock) s.scopes) _ c; before = λ i x. before i scope long x (dec_lt i (scopes img)) };
              queued =
                  record {
                    room = leb-true (length s.waiting) (limits img).waiting (and_left (leb (length s.waiting) (limits img).waiting) _ d);
                    events =
                        every_both (event_rules img) (λ x. queue_rules img x && image_rules s.scopes x) s.waiting (and_left (every (event_rules img) s.waiting) _ f)
                        (every_both (queue_rules img) (image_rules s.scopes) s.waiting (and_left (every (queue_rules img) s.waiting) _ g)
                        (and_left (every (image_rules s.scopes) s.waiting) _ i));
                    work = eqb-true s.work (count ordinary s.waiting) (and_left (eqb s.work (count ordinary s.waiting)) _ j);
                  };
              stored = and_right (eqb s.work (count ordinary s.waiting)) _ j;
            };
        current = λ i l. now i (scope i l);
      }
    where
      now : (i : ℕ) → scope_rules img s.modes s.scopes i ≡ true → active_at s i ≡ is_active img s.modes i
      now i e = unfold scope_rules in same_bool (active_at s i) (is_active img s.modes i) (and_left (beq (active_at s i) (is_active img s.modes i)) _ e)

      before : (i : ℕ) → ((i : ℕ) → i < scopes img → scope_rules img s.modes s.scopes i ≡ true) → length s.scopes ≡ scopes img → active_at s i ≡ true → Dec (i < scopes img) → ever_at s i ≡ true
      before i scope long x (yes l) =
          unfold scope_rules in or_else_lem (not (active_at s i)) (ever_at s i) (ap not x) (and_right (beq (active_at s i) (is_active img s.modes i)) _ (scope i l))
      before i scope long x (no l) = let y : length s.scopes ≤ i = omega arith in no_way (sym (ap (λ x. x.active) (get_or-eq_default s.scopes (fresh_scope false) y)) ∙ x)

-- ---- a fresh manager

fresh_ruled : (img : Image) → Table img → Ruled img (fresh img)
unfolding fresh every count
fresh_ruled img tb =
    let ms = map (initial_mode img) (from 0 (reactors img)) in
    let act = map (is_active img ms) (from 0 (scopes img)) in
    let long : length act ≡ scopes img = length-map (from 0 (scopes img)) (is_active img ms) ∙ length_from 0 (scopes img) in
    record {
      sound =
          record {
            moded =
                record {
                  long = length-map (from 0 (reactors img)) (initial_mode img) ∙ length_from 0 (reactors img);
                  exist = every_map (initial_mode img) (mode_rules img) (from 0 (reactors img)) (every_below (λ r. mode_rules img (initial_mode img r)) (reactors img) (initial_exists img tb));
                };
            scoped =
                record {
                  long = length-map act fresh_scope ∙ long;
                  fit = every_map fresh_scope (λ x. within_clock x.clock) act (every_all (λ b. within_clock (fresh_clock b)) fresh_within act);
                  before = λ i. rw (get_or-map fresh_scope act i false) (λ e. e);
                };
            queued = record { room = omega arith; events = refl; work = refl };
            stored = empty_rules (limits img).held (actions img);
          };
      current = λ i l. ap (λ x. x.active) (get_or-map fresh_scope act i false) ∙ get_or_from (is_active img ms) (scopes img) i l;
    }

-- "A fresh manager has the initial modes, and nothing waits or is held": its state breaks no rule
pub fresh_rules : (img : Image) → is_table img ≡ true → rules img (fresh img) ≡ true
fresh_rules img t = rules_pass img (fresh img) t (fresh_ruled img (table_is img t))

-- ---- every call

rules_table : (img : Image) (s : State) → rules img s ≡ true → is_table img ≡ true
unfolding rules
rules_table img s h = and_left (is_table img) _ h

-- where no rule is broken the test of the rules changes nothing: what a run that makes no such test goes by
pub step_performs : (img : Image) (s : State) (c : Call) → rules img s ≡ true → step img s c ≡ perform img s c
unfolding step
step_performs img s c h = rw h

-- a call leaves no state that breaks a rule, given none
pub step_keeps : (img : Image) (s : State) (c : Call) → rules img s ≡ true → rules img (step img s c).state ≡ true
step_keeps img s c h =
    let t = rules_table img s h in
    rw (step_performs img s c h) (rules_pass img (perform img s c).state t (perform_ruled img (table_is img t) s (rules_tell img s h) c))

pub run_keeps : (img : Image) (s : State) (cs : List Call) → rules img s ≡ true → rules img (run img s cs) ≡ true
unfolding run
run_keeps img s [] h = h
run_keeps img s (c ∷ cs) h = run_keeps img (step img s c).state cs (step_keeps img s c h)

-- "the manager's own states" break no rule
pub own_rules : (img : Image) → is_table img ≡ true → (cs : List Call) → rules img (run img (fresh img) cs) ≡ true
own_rules img t cs = run_keeps img (fresh img) cs (fresh_rules img t)
