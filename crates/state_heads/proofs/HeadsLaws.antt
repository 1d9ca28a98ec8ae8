-- A law for each case of a head, and the loop over the scopes. Assumes nothing.
use Rattle.std.specs.Prelude.{Option, Some, None, MatchOption, IsTrue}
use mathlib.Core.Bool.{Bool, true, false, cond}
use mathlib.Core.Path.{◌≡◌, refl, sym, ap, ◌∙◌}
use mathlib.Core.List.{List, map}
use Prim.Native.Nat.{ℕ, suc, ◌+◌, ◌-◌, ◌<◌, ◌≤◌}
use native.Mathlib.Omega.{arith}
use native.Mathlib.Numerals.{add-one}
use lib.ListN.{get_or}
use borrow.Author.Tests.{eq-eqb, ne_eqb}
use Rattle.lists.specs.Lists.{foldl, from}
use Rattle.tags.specs.Tags.{Tag, MappedAnswer, earlier, to_global, held_in}
use Rattle.tags.specs.Views.{of_global}
use Rattle.machine.specs.State.{root}
use Rattle.machine.specs.Heads as H
use Rattle.machine.specs.Heads.{Least, no_tag, least, sooner, root_of, mapped, mapped_head, scope_head_of, held_at}
use Rattle.state_scopes.specs.Scopes.{Scope, blank}
use Rattle.state_heads.specs.Found.{head_of, head_here, head_in, least_head}
use Rattle.state_heads.specs.declared.HeadAt.{HeadAt}

-- held back, at the tag t of queue q
module _ (ss : List Scope) (q : ℕ) (t : Tag) where
  pub held_root : q ≡ root → false ≡ held_at ss q t
  unfolding held_at
  held_root e = sym (simp (eq-eqb q root e))

  pub held_scope :
      (q ≡ root → ⊥) → {s : Scope} {x : Tag} {m : MappedAnswer} {r : Bool} → s ≡ get_or ss q blank → x ≡ t → m ≡ to_global s.clock x → r ≡ held_in m →
      r ≡ held_at ss q t
  unfolding held_at
  held_scope n e d h p = p ∙ (ap held_in h ∙ rw (ne_eqb q root n, e, d))

module _ (s : Scope) (i : ℕ) (l : Least) {r : H.Head} where
  pub scope_on : s.active ≡ true → r ≡ mapped_head s.clock i l → r ≡ scope_head_of s i l
  unfolding scope_head_of
  scope_on a p = p ∙ rw a

  pub scope_off : s.active ≡ false → r ≡ H.empty → r ≡ scope_head_of s i l
  unfolding scope_head_of
  scope_off a p = p ∙ rw a

pub ruleset scope_heads = (scope_on, scope_off, refl)

-- a scope in which nothing waits has no head
module _ (ss : List Scope) (ls : List Least) (i : ℕ) where
  pub in_nothing : no_tag ≡ get_or ls i no_tag → H.empty ≡ head_in ss ls i
  unfolding head_in scope_head_of
  in_nothing e = rw (← e) (off (get_or ss i blank).active)
    where
      off : (a : Bool) → H.empty ≡ cond a H.empty H.empty
      off true = refl
      off false = refl

  pub in_at : {t : Tag} {r : H.Head} {s : Scope} → least t ≡ get_or ls i no_tag → s ≡ get_or ss i blank → r ≡ scope_head_of s i (least t) → r ≡ head_in ss ls i
  unfolding head_in
  in_at e f q = rw (← e, ← f) q

-- the best so far and one more
pub sooner_is : (x : HeadAt) (best : Option HeadAt) (r : Bool) → MatchOption best (IsTrue r) (λ b. r ≡ earlier (of_global x.tag) (of_global b.tag)) →
    sooner (head_of best) (head_here x) ≡ cond r (head_here x) (head_of best)
sooner_is x None r m = rw m
sooner_is x (Some b) r m = rw m

-- and none more
pub sooner_none : (best : Option HeadAt) → head_of best ≡ sooner (head_of best) H.empty
sooner_none None = refl
sooner_none (Some b) = refl

-- ---- the loop over the scopes

-- the best so far, and those from i on: the least of both is the least of all
pub record Looked (ss : List Scope) (ls : List Least) (n i : ℕ) (best : Option HeadAt) : Type 0 where
  pub rest : least_head ss ls n ≡ foldl sooner (head_of best) (map (head_in ss ls) (from i (n - i)))

pub looked_none : {ss : List Scope} {ls : List Least} {n : ℕ} → Looked ss ls n 0 None
unfolding least_head
looked_none {n = n} = let e : n - 0 ≡ n = omega arith in record { rest = rw e }

module _ {ss : List Scope} {ls : List Least} {n i : ℕ} {best : Option HeadAt} (w : Looked ss ls n i best) where
  pub looked_next : (r : Option HeadAt) {next : Option HeadAt} → i < n → head_of r ≡ head_in ss ls i → head_of next ≡ sooner (head_of best) (head_of r) → Looked ss ls n (i + 1) next
  unfolding foldl from
  looked_next r h e q = let s : n - i ≡ suc (n - (i + 1)) = omega arith in record { rest = w.rest ∙ rw (s, q, e, add-one) }

  pub looked_all : n ≤ i → head_of best ≡ least_head ss ls n
  unfolding foldl from
  looked_all h = let s : n - i ≡ 0 = omega arith in sym (w.rest ∙ rw s)
