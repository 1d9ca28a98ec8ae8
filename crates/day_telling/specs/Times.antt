-- The parts of a time add up to it, and each is below its limit. Assumes nothing.
use Rattle.std.specs.Prelude.{ℕ, ◌+◌, ◌*◌, ◌/◌, ◌%◌, ◌<◌, ◌≡◌}
use Rattle.std.proofs.Common.{arith}
use Rattle.day_telling.specs.Facts.{second, minute, hour}

pub time_adds : (o : ℕ) → o / hour * hour + (o % hour / minute * minute + (o % minute / second * second + o % second)) ≡ o
time_adds o = omega arith

pub time_small : (o : ℕ) → (o % hour / minute < 60) × (o % minute / second < 60) × (o % second < second)
time_small o = (omega arith, omega arith, omega arith)
