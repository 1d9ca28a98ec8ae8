-- The code's heads as the plain machine's, and the least scope head from scopes and least tags alone. Assumes nothing.
use Rattle.std.specs.Prelude.{List, map, ℕ, get_or, Option, Some, None}
use Rattle.lists.specs.Lists.{foldl, from}
use Rattle.tags.specs.Views.{of_global, of_queue}
use Rattle.machine.specs.Heads as H
use Rattle.machine.specs.Heads.{Least, no_tag, sooner, scope_head_of}
use Rattle.state_scopes.specs.Scopes.{Scope, blank}
use Rattle.state_heads.specs.declared.HeadAt.{HeadAt}

abbrev pub head_here : HeadAt → H.Head
head_here h = H.head h.queue (of_queue h.stamp) (of_global h.tag)

abbrev pub head_of : Option HeadAt → H.Head
head_of None = H.empty
head_of (Some h) = head_here h

-- scope i's head
unfoldable pub head_in : List Scope → List Least → ℕ → H.Head
head_in ss ls i = scope_head_of (get_or ss i blank) i (get_or ls i no_tag)

-- the least of the first n scopes' heads
unfoldable pub least_head : List Scope → List Least → ℕ → H.Head
least_head ss ls n = foldl sooner H.empty (map (head_in ss ls) (from 0 n))
