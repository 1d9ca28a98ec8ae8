-- Bytes put into a lent buffer one behind the other: past its end nothing is written. Assumes nothing.
use Rattle.std.specs.Prelude.{ℕ, ◌+◌, min, ◌≡◌, List, length}
use Rattle.std.proofs.lemmas.List.Edits.{sets}

-- every byte of it from `at` on, and the rest as it was; `end` is the place behind them
pub record Written (old : List ℕ) (at : ℕ) (bytes new : List ℕ) (end : ℕ) : Type 0 where
  pub all : new ≡ sets old at bytes
  pub end_is : end ≡ min (at + length bytes) (length old)
