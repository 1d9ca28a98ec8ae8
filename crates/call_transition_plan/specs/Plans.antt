-- The code's plan as the machine's, and what a plan is of modes and a request. Assumes nothing.
use Rattle.std.specs.Prelude.{Bool, cond, ◌&&◌, List, map, ◌≡◌, ℕ, ltb, eqb, length, get_or, set, take}
use Rattle.lists.specs.Lists.{from}
use Rattle.table_rows.specs.Bytes.{Image}
use Rattle.table_rows.specs.Rows.{root_scope, initial_mode, mode_scope}
use Rattle.table_rows.specs.Lineage.{in_subtree, under}
use Rattle.tags.specs.Views.{of_global}
use Rattle.key_set.specs.Sets.{has, word_count}
use Rattle.table_schedule.specs.Schedule.{is_active}
use Rattle.state_room.specs.Padded.{padded}
use Rattle.machine.specs.Table.{scopes, reactors}
use Rattle.machine.specs.Transition as T
use Rattle.call_transition_plan.specs.declared.Plan.{Plan}
use Rattle.call_transition_plan.specs.declared.Request.{Request}
use Rattle.state_room.specs.PartRows.{most_reactors}

abbrev pub plan_in : Image → Plan → T.Plan
plan_in img p =
    record {
      c = of_global p.c;
      inside = map (has p.inside.words) (from 0 (scopes img));
      now = map (has p.now.words) (from 0 (scopes img));
    }

-- the set has no key past the table's scopes
abbrev pub Inner : Image → Plan → Type 0
Inner img p = (i : ℕ) → has p.inside.words i ≡ T.is_inside (plan_in img p) i

-- the set has those of the first n keys that pass, and no other
pub record Marks (test : ℕ → Bool) (n : ℕ) (ws : List ℕ) : Type 0 where
  pub long : length ws ≡ word_count
  pub is : (i : ℕ) → has ws i ≡ (ltb i n && test i)

-- a reactor's mode from now on: "put each reactor whose root scope is strictly under the target scope to its initial mode"; "Set the reactor's mode."
unfoldable pub mode_after : Image → List ℕ → Request → ℕ → ℕ
mode_after img modes q r =
    cond (eqb r q.reactor) q.mode (cond (q.reset && under img (mode_scope img q.mode) (root_scope img r)) (initial_mode img r) (get_or modes r 0))

-- the modes after steps 1 and 2
unfoldable pub new_modes : Image → List ℕ → Request → List ℕ
new_modes img modes q = set (cond q.reset (T.reset_modes img (mode_scope img q.mode) modes) modes) q.reactor q.mode

-- the plan of a request, where the modes were as in this array
pub record Planned (img : Image) (old : List ℕ) (q : Request) (p : Plan) : Type 0 where
  pub c : p.c ≡ q.c
  pub target : p.target ≡ mode_scope img q.mode
  pub inside : Marks (λ i. q.reset && in_subtree img (mode_scope img q.mode) i) (scopes img) p.inside.words
  pub now : Marks (is_active img (new_modes img (take (reactors img) old) q)) (scopes img) p.now.words
  pub modes : p.modes ≡ padded 0 most_reactors (new_modes img (take (reactors img) old) q)
