-- Document 01, "The table image": "Big-endian." A number at a place of an image, over its width, and as bytes, with its laws. Assumes nothing.
use Rattle.std.specs.Prelude.{◌≡◌, List, [], ◌∷◌, ◌++◌, ℕ, zero, suc, ◌+◌, ◌*◌, ◌/◌, ◌%◌, ◌^◌, ◌<◌, get_or}
use Rattle.std.proofs.Common.{pow-suc, arith}
use Rattle.std.proofs.Math.Numerals.{add-one}

abbrev pub Image : Type 0
Image = List ℕ

-- the number that the w bytes from `at` on make, the first the highest; past the end stand zeros
unfoldable pub be : ℕ → Image → ℕ → ℕ
be zero s at = 0
be (suc w) s at = be w s at * 256 + get_or s (at + w) 0

-- and as bytes: the w low ones of a number, the highest first
unfoldable pub be_bytes : ℕ → ℕ → List ℕ
be_bytes zero n = []
be_bytes (suc w) n = be_bytes w (n / 256) ++ (n % 256 ∷ [])

-- one byte more
module _ (s : Image) (at k n b : ℕ) (e : n ≡ be k s at) (h : b ≡ get_or s (at + k) 0) where
  pub be_next : n * 256 + b ≡ be (k + 1) s at
  unfolding be
  be_next = rw add-one (simp (e, h))

-- and its room
pub be_room : (k n b : ℕ) → n < 256 ^ k → b < 256 → n * 256 + b < 256 ^ (k + 1)
be_room k n b h l = rw (add-one, pow-suc) (omega arith)
