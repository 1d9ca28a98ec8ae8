-- A walk of the machine on the room, one step a row, as a loop takes it: until it is done or a row is refused. Assumes nothing.
use Rattle.std.specs.Prelude.{List, ◌≡◌, ℕ, ◌+◌, ◌-◌, ◌≤◌, ◌<◌, Ok, Err}
use Rattle.std.proofs.Math.Nat.{sub-zero}
use Rattle.lists.specs.Lists.{from}
use Rattle.lists.specs.Steps.{from_next, from_end}
use Rattle.lists.specs.Walk.{done, ◌>>=◌, walk}
use Rattle.refusals.specs.declared.Refusal.{Refusal}
use Rattle.table_rows.specs.Bytes.{Image}
use Rattle.machine.specs.State.{State}
use Rattle.machine.specs.Transition.{Step}
use Rattle.state_room.specs.declared.Ledger.{Ledger}
use Rattle.state_room.specs.Holds.{Rows, Held, Outcome, Steps, steps_then, steps_end, steps_held, steps_done, steps_same}

-- of what a loop has of the lent arrays
abbrev pub room : List ℕ → List ℕ → List ℕ → List ℕ → Ledger → Rows
room xs es vs bs l = record { scopes = xs; events = es; values = vs; buckets = bs; ledger = l }

module _ (f : State → ℕ → Step) (n : ℕ) where
  -- what is left of it from row j on
  abbrev left : ℕ → State → Step
  left j s = walk f s (from j (n - j))

  left_next : (j : ℕ) (s : State) → j < n → left j s ≡ (f s j >>= left (j + 1))
  unfolding walk
  left_next j s h = rw (from_next n j h)

  left_end : (j : ℕ) (s : State) → n ≤ j → left j s ≡ done s
  unfolding walk
  left_end j s h = rw (from_end n j h)

  -- b holds a state, and what the rest does from there, the whole walk did from a
  pub record Walked (img : Image) (a : Rows) (j : ℕ) (b : Rows) : Type 0 where
    pub holds : Held img b
    pub rest : (o : Outcome) (c : Rows) → Steps img (left j) b o c → Steps img (λ s. walk f s (from 0 n)) a o c

pub walked_none : {f : State → ℕ → Step} {n : ℕ} {img : Image} {a : Rows} → Held img a → Walked f n img a 0 a
walked_none h = record { holds = h; rest = λ o c k s w. rw sub-zero at (k s w) }

module _ {f : State → ℕ → Step} {n : ℕ} {img : Image} {a : Rows} {j : ℕ} {b : Rows} (w : Walked f n img a j b) where
  pub walked_end : {m : ℕ} → n ≤ j → n ≡ m → Steps img (λ s. walk f s (from 0 m)) a (Ok tt) b
  walked_end h e = rw (← e) (w.rest (Ok tt) b (steps_done img (left f n j) b (λ s k. left_end f n j s h)))

  module _ (h : j < n) (o : Outcome) (c : Rows) (k : Steps img (λ s. f s j) b o c) where
    -- the row, then the rest
    first_then : (p : Outcome) (d : Rows) → Steps img (λ s. f s j >>= left f n (j + 1)) b p d → Steps img (λ s. walk f s (from 0 n)) a p d
    first_then p d r = w.rest p d (steps_same img (left f n j) b p d _ (λ s v. left_next f n j s h) r)

    pub walked_next : o ≡ Ok tt → Walked f n img a (j + 1) c
    walked_next e =
        record {
          holds = steps_held img (λ s. f s j) b c o w.holds k e;
          rest = λ p d r. first_then p d (steps_then img (λ s. f s j) (left f n (j + 1)) b c d o p k e r);
        }

    pub walked_refused : {m : ℕ} {x : Refusal} → n ≡ m → o ≡ Err x → Steps img (λ s. walk f s (from 0 m)) a o c
    walked_refused q e = rw (← q) (first_then o c (steps_end img (λ s. f s j) (left f n (j + 1)) b c c o o k e e))
