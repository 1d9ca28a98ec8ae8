-- Demand 3 for the code: what the public calls answer and leave is what the history tells. Assumes nothing but the accepted table.
use Rattle.std.specs.Prelude.{true, ◌≡◌, List, [], ◌∷◌, take}
use Rattle.std.proofs.Common.{ap, ◌∙◌}
use Rattle.table_rows.specs.Bytes.{Image}
use Rattle.table.specs.Check.{is_table}
use Rattle.machine.specs.State.{State}
use Rattle.machine.specs.Machine.{Call, step}
use Rattle.manager.specs.Arrays.{Arrays, is_sound, step_on, run_on, fresh_over}
use Rattle.manager.proofs.Runs.{step_reply, step_sound, fresh_sound, own_view}
use Rattle.machine_history.specs.History.{call_at}
use Rattle.machine_history.specs.One.{TheHistory}
use Rattle.machine_history.proofs.One.{the_history}
use Rattle.own_history.specs.Own.{manager_at, Managed}

run_sound : (img : Image) (a : Arrays) (cs : List Call) → is_sound img a ≡ true → is_sound img (run_on img a cs) ≡ true
unfolding run_on
run_sound img a [] s = s
run_sound img a (c ∷ cs) s = run_sound img (step_on img a c).manager cs (step_sound img a c s)

pub managed : (img : Image) → is_table img ≡ true → (cs : List Call) → Managed img cs
managed img t cs =
    record {
      states = λ n. own_view img t (take n cs);
      answers = λ n.
          step_reply img (manager_at img cs n) (call_at cs n) (run_sound img (fresh_over img) (take n cs) (fresh_sound img t)) ∙
          ap (λ (s : State). (step img s (call_at cs n)).reply) (own_view img t (take n cs));
    }

-- so every event that the public calls accepted has one fate
pub own_fates : (img : Image) → is_table img ≡ true → (cs : List Call) → TheHistory img cs × Managed img cs
own_fates img t cs = (the_history img t cs, managed img t cs)
