-- Document 02, C-19, a branch that is never taken: "A mode's scope always has a parent in our tables, and so has everything under it." Assumes nothing.
use Prim.Native.Nat.{ℕ, ◌<◌}
use Rattle.std.proofs.Math.Bool.{Bool, false, not}
use Rattle.std.specs.Prelude.{true, cond, ◌&&◌, ◌≡◌, refl, List, [], ◌∷◌}
use Rattle.std.proofs.Math.Path.{ap}
use Rattle.std.proofs.Common.{◌∙◌, sym, arith}
use Rattle.std.proofs.Math.Dec.{ltb}
use Rattle.std.proofs.Math.ListN.{get_or}
use borrow.Author.Tests.{ltb-true, ne_eqb}
use Rattle.lists.specs.Tests.{and_left, and_right}
use Rattle.lists.specs.Lists.{keep, every, from}
use Rattle.lists.specs.Every.{both, every_head, every_tail, every_imp, from_below, get_or_from}
use Rattle.lists.proofs.Every.{every_keep}
use Rattle.lists.specs.Walk.{done, refused, ◌>>=◌, walk}
use Rattle.table_rows.specs.Bytes.{Image}
use Rattle.table_rows.specs.Kinds as K
use Rattle.table_rows.specs.Kinds.{count}
use Rattle.table_rows.specs.Rows.{none, parent, mode_scope, timer_action}
use Rattle.table_rows.specs.Lineage.{in_subtree}
use Rattle.table.specs.Rules.{timer_tag}
use Rattle.table.specs.Table.{Table}
use Rattle.table.proofs.TableLaws.{mode_child, action_scope_lem, timer_action_lem}
use Rattle.tags.specs.Tags.{Tag, Answer, image_of}
use Rattle.table_schedule.specs.Schedule.{triggers_of}
use Rattle.machine.specs.Table.{scopes, modes, has_parent}
use Rattle.machine.specs.State.{Event, State, root, clock_at, accepted}
use Rattle.machine.specs.Transition.{Step, inside_of, held, timer_scope, timer_image, timer_event, timer, timer_rows, reset_rows, reset_event, step5}

-- ---- the branch as the Rust has it, "asks whether the scope runs on global time and, if so, pushes to the root": only what the theorem speaks of

unfoldable pub old_image : Image → State → ℕ → Answer
old_image img s j = cond (has_parent img (timer_scope img j)) (image_of (clock_at s (timer_scope img j)) (timer_tag img j)) (done (timer_tag img j))

unfoldable pub old_event : Image → ℕ → Tag → Event
old_event img j g =
    record {
      queue = cond (has_parent img (timer_scope img j)) (timer_scope img j) root;
      tag = timer_tag img j;
      reactions = triggers_of img (timer_action img j);
      terminal = false;
      control = false;
      network = false;
      action = timer_action img j;
      stored = g;
    }

unfoldable pub old_timer : Image → State → ℕ → Step
old_timer img s j = old_image img s j >>= λ g. held img (timer_action img j) g s >>= λ t. accepted img t (old_event img j g)

-- step 5 with it
unfoldable pub old_step5 : Image → Tag → ℕ → List Bool → State → Step
old_step5 img c target ins s = walk (old_timer img) s (timer_rows img ins) >>= λ t. reset_event img c target (reset_rows img ins) t

-- ---- where a timer's scope has a parent, it is not taken

pub same_timer : (img : Image) (s : State) (j : ℕ) → has_parent img (timer_scope img j) ≡ true → old_timer img s j ≡ timer img s j
unfolding old_timer old_image old_event timer timer_image timer_event
same_timer img s j h = rw h

walk_same : (img : Image) (rows : List ℕ) (s : State) → every (λ j. has_parent img (timer_scope img j)) rows ≡ true → walk (old_timer img) s rows ≡ walk (timer img) s rows
unfolding walk
walk_same img [] s h = refl
walk_same img (j ∷ js) s h =
    let p : ℕ → Bool = λ j. has_parent img (timer_scope img j) in
    rw (same_timer img s j (every_head p j js h)) (go (timer img s j) λ t. walk_same img js t (every_tail p j js h))
  where
    go : (r : Step) → ((t : State) → walk (old_timer img) t js ≡ walk (timer img) t js) → (r >>= λ t. walk (old_timer img) t js) ≡ (r >>= λ t. walk (timer img) t js)
    go (done t) k = k t
    go (refused n) k = refl

-- ---- and each restarted timer's has

module _ (img : Image) (tb : Table img) (m : ℕ) (l : m < modes img) where
  child : (i : ℕ) → i < scopes img → in_subtree img (mode_scope img m) i ≡ true → has_parent img i ≡ true
  unfolding has_parent
  child i k h = ap not (ne_eqb (parent img i) none (mode_child img tb m i l k h))

  -- "no restarted timer meets this branch"
  pub timer_parent : (j : ℕ) → j < count img K.timer → in_subtree img (mode_scope img m) (timer_scope img j) ≡ true → has_parent img (timer_scope img j) ≡ true
  timer_parent j k h = child (timer_scope img j) (action_scope_lem img tb (timer_action img j) (timer_action_lem img tb j k)) h

  module _ (reset : Bool) where
    abbrev ins : List Bool
    ins = inside_of img reset (mode_scope img m)

    inside : (i : ℕ) → i < scopes img → get_or ins i false ≡ true → in_subtree img (mode_scope img m) i ≡ true
    inside i k h = and_right reset _ (sym (get_or_from (λ i. reset && in_subtree img (mode_scope img m) i) (scopes img) i k) ∙ h)

    pub rows_parent : every (λ j. ltb j (count img K.timer) && has_parent img (timer_scope img j)) (timer_rows img ins) ≡ true
    unfolding timer_rows
    rows_parent =
        let n = count img K.timer in
        let q : ℕ → Bool = λ j. get_or ins (timer_scope img j) false in
        every_imp (λ j. ltb j n && q j) (λ j. ltb j n && has_parent img (timer_scope img j))
        (λ j x.
        let k = ltb-true j n (and_left (ltb j n) _ x) in
        both (and_left (ltb j n) _ x)
        (timer_parent j k (inside (timer_scope img j) (action_scope_lem img tb (timer_action img j) (timer_action_lem img tb j k)) (and_right (ltb j n) _ x))))
        (keep q (from 0 n)) (every_keep (λ j. ltb j n) q (from 0 n) (from_below n 0 n (omega arith)))

    -- so a reset's step 5 is the one with the branch, whatever the state
    pub same_step5 : (c : Tag) (s : State) → old_step5 img c (mode_scope img m) ins s ≡ step5 img c (mode_scope img m) ins s
    unfolding old_step5 step5
    same_step5 c s =
        ap (◌>>= λ t. reset_event img c (mode_scope img m) (reset_rows img ins) t)
        (walk_same img (timer_rows img ins) s
        (every_imp (λ j. ltb j (count img K.timer) && has_parent img (timer_scope img j)) (λ j. has_parent img (timer_scope img j)) (λ j x. and_right (ltb j (count img K.timer)) _ x) (timer_rows img ins) rows_parent))
