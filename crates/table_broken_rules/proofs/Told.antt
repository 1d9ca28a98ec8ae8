-- A row has a rule that it breaks exactly if it breaks the table's rules. Assumes nothing.
use Prim.Native.Nat.{ℕ, suc, ◌+◌, ◌<◌}
use mathlib.Core.Path.{◌≡◌, refl, ap, ◌∙◌}
use mathlib.Core.Bool.{Bool, true, false, cond, not, ◌&&◌, ◌||◌}
use mathlib.Core.List.{List, [], ◌∷◌}
use native.Mathlib.Omega.{arith}
use lib.Dec.{ltb, eqb}
use lib.ListN.{length, get_or}
use borrow.Author.Tests.{lt-ltb, le-ltb}
use Rattle.std.specs.Prelude.{Option, Some, None}
use Rattle.lists.specs.Lists.{every}
use Rattle.lists.specs.Scan.{scan}
use Rattle.table_rows.specs.Bytes.{Image}
use Rattle.table_rows.specs.Kinds.{count, scope, reactor, mode, reaction, action, timer}
use Rattle.table_rows.specs.Rows.{none, parent, scope_reactor, scope_mode, root_scope, initial_mode, mode_scope, mode_reactor}
use Rattle.table_rows.specs.Lineage.{under}
use Rattle.table.specs.Rules.{key, key_fields, key_count, key_exists, keys_exist, parent_rule, agrees, scope_rule}
use Rattle.table.specs.Rules.{initial_rule, reactor_rule, mode_rule, reaction_rule, action_rule, timer_rule, own_rule, row_rule}
use Rattle.table_broken_rules.specs.declared.Rule.{Rule}
use Rattle.table_broken_rules.specs.declared.Rule.TheVariants.{Key, Parent, NoMode, NoParent, OtherScope, OtherReactor}
use Rattle.table_broken_rules.specs.declared.Rule.TheVariants.{NotUnder, NoInitial, InitialElsewhere, NotNamedBack, Level, Logical, TimerTag}
use Rattle.table_broken_rules.specs.BrokenRules.{must, field_at, missing_key, mode_fault, scope_fault, initial_fault}
use Rattle.table_broken_rules.specs.BrokenRules.{reactor_fault, mode_row_fault, level_fault, logical_fault, timer_fault, own_fault, broken_rule}

abbrev pub keeps : Option Rule → Bool
keeps None = true
keeps (Some r) = false

one : (b : Bool) (f : Rule) → keeps (must b f None) ≡ b
one true f = refl
one false f = refl

mode_tells : (s : Image) (i p r m : ℕ) → keeps (mode_fault s i p r m) ≡ agrees s i p r m
unfolding mode_fault agrees
mode_tells s i p r m = go (ltb m (count s mode)) (not (eqb p none)) (eqb (mode_scope s m) i) (eqb (mode_reactor s m) r) (under s (root_scope s r) i)
  where
    go : (a b c d e : Bool) → keeps (must a NoMode (must b NoParent (must c OtherScope (must d OtherReactor (must e NotUnder None))))) ≡ (a && (b && (c && (d && e))))
    go false b c d e = refl
    go true false c d e = refl
    go true true false d e = refl
    go true true true false e = refl
    go true true true true e = one e NotUnder

scope_tells : (s : Image) (i : ℕ) → keeps (scope_fault s i) ≡ scope_rule s i
unfolding scope_fault scope_rule
scope_tells s i = go (parent_rule s i) (eqb (scope_mode s i) none) _ (mode_tells s i (parent s i) (scope_reactor s i) (scope_mode s i))
  where
    go : (a b : Bool) {q : Bool} (f : Option Rule) → keeps f ≡ q → keeps (must a Parent (cond b None f)) ≡ (a && (b || q))
    go false b f e = refl
    go true true f e = refl
    go true false f e = e

reactor_tells : (s : Image) (i : ℕ) → keeps (reactor_fault s i) ≡ reactor_rule s i
unfolding reactor_fault initial_fault reactor_rule initial_rule
reactor_tells s i = let m = initial_mode s i in go (eqb m none) (ltb m (count s mode)) (eqb (mode_reactor s m) i)
  where
    go : (a b c : Bool) → keeps (cond a None (must b NoInitial (must c InitialElsewhere None))) ≡ (a || (b && c))
    go true b c = refl
    go false false c = refl
    go false true c = one c InitialElsewhere

row_tells : (s : Image) (i : ℕ) → keeps (mode_row_fault s i) ≡ mode_rule s i
unfolding mode_row_fault mode_rule
row_tells s i = one (eqb (scope_mode s (mode_scope s i)) i) NotNamedBack

own_tells : (s : Image) (k i : ℕ) → keeps (own_fault s k i) ≡ own_rule s k i
unfolding own_fault own_rule level_fault logical_fault timer_fault
own_tells s k i =
    go (eqb k scope) _ _ (scope_tells s i)
    (go (eqb k reactor) _ _ (reactor_tells s i)
    (go (eqb k mode) _ _ (row_tells s i)
    (go (eqb k reaction) _ _ (one (reaction_rule s i) Level)
    (go (eqb k action) _ _ (one (action_rule s i) Logical) (go (eqb k timer) _ _ (one (timer_rule s i) TimerTag) refl)))))
  where
    go : (b : Bool) (f g : Option Rule) {p q : Bool} → keeps f ≡ p → keeps g ≡ q → keeps (cond b f g) ≡ cond b p q
    go true f g e h = e
    go false f g e h = h

-- the first that fails is before the end exactly if not every one passes
scan_every : {A : Type 0} (p : A → Bool) (d : A) (l : List A) (f : ℕ → A) (i : ℕ) → ((j : ℕ) → j < length l → f (i + j) ≡ get_or l j d) →
    ltb (scan (λ j. p (f j)) i (length l)) (i + length l) ≡ not (every p l)
unfolding scan every
scan_every p d [] f i h = le-ltb i (i + 0) (omega arith)
scan_every p d (a ∷ l) f i h =
    let here : f i ≡ a = ap f (omega arith) ∙ h 0 (omega arith) in
    rw here (go (p a) (scan_every p d l f (suc i) λ j k. ap f (omega arith) ∙ h (suc j) (omega arith)))
  where
    go : (b : Bool) → ltb (scan (λ j. p (f j)) (suc i) (length l)) (suc i + length l) ≡ not (every p l) →
        ltb (cond b (scan (λ j. p (f j)) (suc i) (length l)) i) (i + suc (length l)) ≡ not (b && every p l)
    go true e = let n : i + suc (length l) ≡ suc i + length l = omega arith in rw n e
    go false e = lt-ltb i (i + suc (length l)) (omega arith)

keys_tell : (s : Image) (k i : ℕ) → ltb (missing_key s k i) key_count ≡ not (keys_exist s k i)
unfolding missing_key keys_exist key_fields
keys_tell s k i = scan_every (key_exists s k i) (key 0 0 0) key_fields field_at 0 λ j h. let e : 0 + j ≡ j = omega arith in ap field_at e

pub rule_tells : (s : Image) (k i : ℕ) → keeps (broken_rule s k i) ≡ row_rule s k i
unfolding broken_rule row_rule
rule_tells s k i = go (ltb (missing_key s k i) key_count) (keys_exist s k i) (missing_key s k i) (own_fault s k i) (keys_tell s k i) (own_tells s k i)
  where
    go : (m e : Bool) (j : ℕ) (f : Option Rule) {q : Bool} → m ≡ not e → keeps f ≡ q → keeps (cond m (Some (Key j)) f) ≡ (e && q)
    go m true j f h g = rw h g
    go m false j f h g = rw h
