-- Where a run's calls, states and answers stand. Assumes nothing.
use Rattle.std.specs.Prelude.{ℕ, zero, suc, ◌<◌, ◌≡◌, List, [], ◌∷◌, length, take, get_or}
use Rattle.std.proofs.Math.Path.{refl}
use native.Mathlib.Omega.{arith}
use Rattle.table_rows.specs.Bytes.{Image}
use Rattle.machine.specs.State.{State}
use Rattle.machine.specs.Machine.{Call, peek_tag, nothing, step, run, replies}

pub run_next : (img : Image) (cs : List Call) (s : State) (n : ℕ) → n < length cs → run img s (take (suc n) cs) ≡ (step img (run img s (take n cs)) (get_or cs n peek_tag)).state
unfolding run
run_next img [] s n l = absurd (omega arith)
run_next img (c ∷ cs) s zero l = refl
run_next img (c ∷ cs) s (suc n) l = run_next img cs (step img s c).state n (omega arith)

-- the answers of the run are the outcomes' replies
pub reply_at : (img : Image) (cs : List Call) (s : State) (n : ℕ) → n < length cs → get_or (replies img s cs) n nothing ≡ (step img (run img s (take n cs)) (get_or cs n peek_tag)).reply
unfolding run replies
reply_at img [] s n l = absurd (omega arith)
reply_at img (c ∷ cs) s zero l = refl
reply_at img (c ∷ cs) s (suc n) l = reply_at img cs (step img s c).state n (omega arith)
