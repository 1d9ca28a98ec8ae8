-- The calls among the records that a piece's run takes: its state is the plain machine's after them. Assumes nothing.
use Rattle.std.specs.Prelude.{ℕ, zero, suc, ◌+◌, ◌-◌, Bool, true, false, cond, ◌≡◌, refl, List, [], ◌∷◌, ltb, length}
use Rattle.std.proofs.Common.{◌∙◌, sym}
use Rattle.table_rows.specs.Bytes.{Image}
use Rattle.machine.specs.State.{State}
use Rattle.machine.specs.Machine.{Call, run}
use Rattle.day_records.specs.Records.{Record, call, malformed, cut, over}
use Rattle.day_run.specs.Days.{Next, pending, broken, whole, next_at, body_at, line_at, state_at, longest, ran_in, ran_on, ran}

-- a record that is malformed counts as nothing
abbrev pub before : Record → List Call → List Call
before (call c) cs = c ∷ cs
before malformed cs = cs
before cut cs = cs
before over cs = cs

abbrev pub calls_on : Image → List ℕ → State → ℕ → ℕ → (State → ℕ → ℕ → List Call) → Next → List Call
calls_on img bytes s i room rest pending = []
calls_on img bytes s i room rest broken = []
calls_on img bytes s i room rest (whole m) =
    let r = body_at bytes i m in
    before r (rest (state_at img s r) (i + 4 + m) (room - length (line_at img s r)))

unfoldable pub calls_in : ℕ → Image → List ℕ → State → ℕ → ℕ → List Call
calls_in zero img bytes s i room = []
calls_in (suc n) img bytes s i room = cond (ltb room longest) [] (calls_on img bytes s i room (calls_in n img bytes) (next_at bytes i))

unfoldable pub calls_taken : Image → List ℕ → State → ℕ → List Call
calls_taken img bytes s room = calls_in (length bytes) img bytes s 0 room

run_before : (img : Image) (s : State) (r : Record) (cs : List Call) → run img s (before r cs) ≡ run img (state_at img s r) cs
unfolding run
run_before img s (call c) cs = refl
run_before img s malformed cs = refl
run_before img s cut cs = refl
run_before img s over cs = refl

runs_in : (n : ℕ) (img : Image) (bytes : List ℕ) (s : State) (i room : ℕ) → (ran_in n img bytes s i room).state ≡ run img s (calls_in n img bytes s i room)
unfolding ran_in calls_in run
runs_in zero img bytes s i room = refl
runs_in (suc n) img bytes s i room = go (λ t j k. runs_in n img bytes t j k) (ltb room longest) (next_at bytes i)
  where
    go : ((t : State) (j k : ℕ) → (ran_in n img bytes t j k).state ≡ run img t (calls_in n img bytes t j k)) → (b : Bool) (x : Next) →
        (cond b (record { state = s; used = i; lines = []; ended = false }) (ran_on img bytes s i room (ran_in n img bytes) x)).state ≡
        run img s (cond b [] (calls_on img bytes s i room (calls_in n img bytes) x))
    go f true x = refl
    go f false pending = refl
    go f false broken = refl
    go f false (whole m) =
        let r = body_at bytes i m in
        f (state_at img s r) (i + 4 + m) (room - length (line_at img s r)) ∙ sym (run_before img s r _)

-- the state that a piece's run leaves
pub ran_runs : (img : Image) (bytes : List ℕ) (s : State) (room : ℕ) → (ran img bytes s room).state ≡ run img s (calls_taken img bytes s room)
unfolding ran calls_taken
ran_runs img bytes s room = runs_in (length bytes) img bytes s 0 room
