-- Computed histories with a control event, and what a manager would have to tell that ignores a push or takes it twice. Assumes nothing.
use Rattle.std.specs.Prelude.{ℕ, ◌≡◌, refl, [], ◌∷◌, length}
use Rattle.std.proofs.Common.{ap, arith}
use Rattle.lists.specs.Lists.{keep}
use Rattle.tags.specs.Tags.{at}
use Rattle.machine.specs.Machine.{control}
use Rattle.machine_days.specs.Computed.{day_of}
use Rattle.machine_history.specs.Deeds.{scope_turns, turns_of}
use Rattle.machine_history.specs.History.{waits, turn_from, fate_at}
use Rattle.machine_history.specs.History.{fate_from, entries_from, history_of, new_by, pop_takes, reset_drops, Told}
use Rattle.machine_history.specs.Examples.{img, entry, ds, c, turned}

pub is_turned : history_of img ds ≡ turned 0
unfolding day_of entries_from fate_from fate_at turn_from new_by pop_takes reset_drops scope_turns turns_of
is_turned = refl

-- a push that is answered "ok" and ignored
pub not_ignored : Told img (control (at 3 0) ∷ []) [] → ⊥
unfolding day_of keep new_by
not_ignored t = let z : [] ≡ c ∷ [] = t.made 0 (omega arith) in let y : ◌≡◌ {A = ℕ} 0 1 = cc in omega arith

-- a push accepted twice
pub not_twice : Told img (control (at 3 0) ∷ []) (entry c 0 waits ∷ entry c 0 waits ∷ []) → ⊥
unfolding day_of keep new_by
not_twice t = let z : c ∷ c ∷ [] ≡ c ∷ [] = t.made 0 (omega arith) in let y : ◌≡◌ {A = ℕ} 2 1 = ap length z in omega arith
