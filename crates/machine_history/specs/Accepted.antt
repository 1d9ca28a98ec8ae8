-- What waits after a call is what waited through it, and then what it accepted: numbers are in order of acceptance. Assumes nothing.
use Rattle.std.specs.Prelude.{ℕ, suc, ◌<◌, ◌≤◌, Bool, true, false, cond, ◌&&◌, ◌≡◌, ltb, leb}
use Rattle.std.proofs.Math.Path.{refl}
use Rattle.std.proofs.Common.{ap, arith}
use mathlib.Core.List.{List, [], ◌∷◌, ◌++◌}
use Rattle.std.proofs.Math.Decide.{dec_lt, ℕ_discrete}
use Rattle.std.proofs.Math.Dec.{eqb}
use borrow.Author.Tests.{lt-ltb, le-ltb, le-leb, leb-true, eq-eqb, ne_eqb}
use Rattle.lists.specs.Tests.{and_left, and_right, lt_eqb}
use Rattle.lists.specs.Lists.{keep}
use Rattle.table_rows.specs.Bytes.{Image}
use Rattle.machine.specs.Machine.{Call}
use Rattle.lists.specs.Tests.{and_no}
use Rattle.lists.specs.Every.{by_test, both}
use Rattle.lists.specs.Each.{Each, each_imp, each_two, keep_same}
use Rattle.machine_history.specs.History.{Fate, waits, popped, dropped, Entry, History, open_at, waits_at, waits_through, Fated, Right, in_order}

pub from_here_lem : (h : History) (m : ℕ) → in_order m h ≡ true → Each (λ x. m ≤ x.by) h
unfolding in_order
from_here_lem [] m o = tt
from_here_lem (x ∷ h) m o =
    let l = leb-true m x.by (and_left (leb m x.by) _ o) in
    (l, each_imp (λ y. x.by ≤ y.by) (λ y. m ≤ y.by) (λ y k. omega arith) h (from_here_lem h x.by (and_right (leb m x.by) _ o)))

-- still there later, still there before
open_before : (n : ℕ) (f : Fate) → (open_at n f && open_at (suc n) f) ≡ open_at (suc n) f
open_before n waits = refl
open_before n (popped m r) = by_test (leb (suc n) m) (λ e. rw (le-leb n m (omega (arith, leb-true (suc n) m e)))) (λ e. rw e (and_no (leb n m)))
open_before n (dropped m) = by_test (leb (suc n) m) (λ e. rw (le-leb n m (omega (arith, leb-true (suc n) m e)))) (λ e. rw e (and_no (leb n m)))

-- what a call accepted it did not take away
pub own_open : (img : Image) (cs : List Call) (n : ℕ) (x : Entry) → Right img cs n x → open_at (suc x.by) x.fate ≡ true
own_open img cs n x r = go x.fate r.fated
  where
    go : (f : Fate) → Fated img cs n x.by x.event f → open_at (suc x.by) f ≡ true
    go waits g = refl
    go (popped m q) g = le-leb (suc x.by) m g.after
    go (dropped m) g = le-leb (suc x.by) m g.after

module _ (img : Image) (cs : List Call) (n most : ℕ) where
  none_through : (h : History) → Each (λ x. n ≤ x.by) h → keep (waits_through n) h ≡ []
  unfolding keep waits_through waits_at
  none_through [] e = refl
  none_through (x ∷ h) e = rw (le-ltb x.by n e.0) (none_through h e.1)

  own_only : (x : Entry) → n ≤ x.by → Right img cs most x → waits_at (suc n) x ≡ eqb x.by n
  unfolding waits_at
  own_only x l r = go (ℕ_discrete x.by n)
    where
      go : Dec (x.by ≡ n) → (ltb x.by (suc n) && open_at (suc n) x.fate) ≡ eqb x.by n
      go (yes q) = rw (lt-ltb x.by (suc n) (omega arith), eq-eqb x.by n q, ← q) (own_open img cs most x r)
      go (no q) = rw (le-ltb x.by (suc n) (omega arith), ne_eqb x.by n q)

  -- from the first that no earlier call accepted on
  none_older : (h : History) → Each (λ x. n ≤ x.by) h → Each (Right img cs most) h → keep (waits_at (suc n)) h ≡ keep (waits_through n) h ++ keep (λ x. eqb x.by n) h
  none_older h l e = rw (none_through h l) (keep_same (waits_at (suc n)) (λ x. eqb x.by n) h (each_two (λ x. n ≤ x.by) (Right img cs most) (λ x. waits_at (suc n) x ≡ eqb x.by n) own_only h l e))

  pub by_call : (h : History) (m : ℕ) → in_order m h ≡ true → Each (Right img cs most) h → keep (waits_at (suc n)) h ≡ keep (waits_through n) h ++ keep (λ x. eqb x.by n) h
  unfolding keep in_order
  by_call [] m o e = refl
  by_call (x ∷ h) m o e = go (dec_lt x.by n) (by_call h x.by (and_right (leb m x.by) _ o) e.1)
    where
      older : x.by < n → (waits_at (suc n) x ≡ open_at (suc n) x.fate) × (waits_through n x ≡ open_at (suc n) x.fate)
      older l = unfold waits_at waits_through in (rw (lt-ltb x.by (suc n) (omega arith)), rw (lt-ltb x.by n l) (open_before n x.fate))

      put : (b : Bool) (k a c : History) → k ≡ a ++ c → cond b (x ∷ k) k ≡ cond b (x ∷ a) a ++ c
      put true k a c r = ap (x ∷◌) r
      put false k a c r = r

      go : Dec (x.by < n) → keep (waits_at (suc n)) h ≡ keep (waits_through n) h ++ keep (λ x. eqb x.by n) h →
          keep (waits_at (suc n)) (x ∷ h) ≡ keep (waits_through n) (x ∷ h) ++ keep (λ x. eqb x.by n) (x ∷ h)
      go (yes l) r =
          rw ((older l).0, (older l).1, lt_eqb x.by n l)
          (put (open_at (suc n) x.fate) (keep (waits_at (suc n)) h) (keep (waits_through n) h) (keep (λ x. eqb x.by n) h) r)
      go (no l) r = none_older (x ∷ h) (from_here_lem (x ∷ h) n (both (le-leb n x.by (omega arith)) (and_right (leb m x.by) _ o))) e
