-- `call_transition_plan::scopes_where` meets its contract: the scopes before i are marked. Assumes nothing.
use Rattle.std.proofs.Common.{◌≡◌, ℕ, Bool}
use Rattle.call_transition_plan.specs.Plans.{Marks}
use Rattle.call_transition_plan.proofs.scopes_where.Given as goal

abbrev pub invariant-loop-i : goal.invariant-loop-i
invariant-loop-i g l =
    (test : ℕ → Bool) → ((i : ℕ) (b : Bool) → goal.F-post g l.fn.passes i b → b ≡ test i) → Marks test l.i l.set.words
