-- What an accepted image has: the fact that later functions use, got only from the check. Assumes nothing.
use Rattle.std.specs.Prelude.{◌≡◌, true, ℕ, ◌≤◌, ◌<◌, length}
use Rattle.table_rows.specs.Bytes.{Image, be}
use Rattle.table_rows.specs.Kinds.{kind_count, head_bytes, count, place}
use Rattle.table.specs.Rules.{row_rule}
use Rattle.table.specs.Check.{version, count_fits}

pub record Table (s : Image) : Type 0 where
  pub versioned : be 1 s 4 ≡ version
  pub long : head_bytes ≤ length s
  pub counts : (k : ℕ) → k < kind_count → count_fits s k ≡ true
  pub filled : place s kind_count ≡ length s
  pub rules : (k i : ℕ) → k < kind_count → i < count s k → row_rule s k i ≡ true
