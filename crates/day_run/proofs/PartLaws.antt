-- What the parts of a day's run know. Assumes nothing.
use mathlib.Core.Path.{◌≡◌, sym}
use mathlib.Core.List.{List}
use Prim.Native.Nat.{ℕ, ◌+◌, ◌-◌, ◌≤◌, ◌<◌}
use native.Mathlib.Omega.{arith}
use lib.ListN.{length, take, drop, length-drop}
use borrow.Author.Tests.{lt-ltb, le-ltb}
use Rattle.table_rows.specs.Bytes.{be}
use Rattle.day_records.specs.Records.{most_bytes, body_of}
use Rattle.day_records.specs.Views.{Parses}
use Rattle.std.specs.Prelude.{Result}
use Rattle.day_records.specs.declared.Malformed.{Malformed}
use Rattle.day_records.specs.declared.Parsed.{Parsed}
use Rattle.day_run.specs.Days.{pending, broken, whole, next_at, bytes_left, body_at}

-- ---- what stands at a place

module _ (bytes : List ℕ) (i : ℕ) (h : i ≤ length bytes) where
  left_is : bytes_left bytes i ≡ length bytes - i
  left_is = length-drop i bytes

  pub next_few : length bytes - i < 4 → pending ≡ next_at bytes i
  unfolding next_at
  next_few l = sym (rw (left_is, lt-ltb (length bytes - i) 4 l))

  module _ (m : 4 ≤ length bytes - i) (n : ℕ) (e : n ≡ be 4 bytes i) where
    pub next_broken : most_bytes < n → broken ≡ next_at bytes i
    unfolding next_at
    next_broken l = sym (rw (left_is, le-ltb (length bytes - i) 4 m, ← e, lt-ltb most_bytes n l))

    module _ (l : n ≤ most_bytes) where
      pub next_short : length bytes - i < 4 + n → pending ≡ next_at bytes i
      unfolding next_at
      next_short k = sym (rw (left_is, le-ltb (length bytes - i) 4 m, ← e, le-ltb most_bytes n l, lt-ltb (length bytes - i) (4 + n) k))

      pub next_whole : 4 + n ≤ length bytes - i → whole n ≡ next_at bytes i
      unfolding next_at
      next_whole k = sym (rw (left_is, le-ltb (length bytes - i) 4 m, ← e, le-ltb most_bytes n l, le-ltb (length bytes - i) (4 + n) k))

-- ---- a record's bytes

pub body_there : (bytes : List ℕ) (i n : ℕ) {r : Result Parsed Malformed} {before after : List ℕ} →
    Parses r before after (body_of (take (i + 4 + n - (i + 4)) (drop (i + 4) bytes))) → Parses r before after (body_at bytes i n)
body_there bytes i n p = let e : i + 4 + n - (i + 4) ≡ n = omega arith in rw e at p
