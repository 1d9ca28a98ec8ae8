-- "while the least scope head is t": after a pop at t the least scope head is not t. Assumes nothing.
use Rattle.std.specs.Prelude.{◌≡◌, List}
use Rattle.std.proofs.Math.Bool.{false}
use Rattle.std.proofs.Math.ListN.{length}
use Rattle.table_rows.specs.Bytes.{Image}
use Rattle.tags.specs.Tags.{Tag}
use Rattle.machine.specs.State.{Scope}
use Rattle.machine.specs.Heads.{scope_head, is_at, Taking}
use Rattle.machine.specs.Heads.{taking, root_head}
use Rattle.machine_rules_kept.specs.Ends.{ends, root_less}

module _ (img : Image) (ss : List Scope) (t : Tag) where
  -- after a pop at t the least scope head is not t
  pub pop_ends : (k : Taking) → is_at t (scope_head img ss (taking img ss t k).waiting) ≡ false
  unfolding taking
  pop_ends k = ends img ss t (length k.waiting) _ (root_less img ss t k (root_head k.waiting))
