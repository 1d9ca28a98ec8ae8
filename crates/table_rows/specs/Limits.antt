-- All limits of document 01, by the image's version: "Most" of "The table image", and those of 8 and 9. The only place that says so.
-- A limit is no array's length: what an array has room for is said where the array is, and proofs go from one to the other by `limits_fit`.
-- Assumes nothing.
use Rattle.std.specs.Prelude.{Bool, List, [], ◌∷◌, ℕ, ◌-◌, ◌≤◌, T, leb, get_or}
use Rattle.std.proofs.Common.{leb→le}
use Rattle.lists.specs.Tests.{T-left}
use Rattle.lists.specs.Lists.{every, entry_at}
use Rattle.table_rows.specs.Bytes.{Image, be}
use Rattle.table_rows.specs.declared.Limits.{Limits}

-- "Kind | Most"; "256 events wait and one more is needed"; "a new value needed with 256 held, or a new bucket with 256 held"
abbrev pub version1 : Limits
version1 = record { most = 32 ∷ 16 ∷ 32 ∷ 128 ∷ 64 ∷ 256 ∷ 64 ∷ 64 ∷ 64 ∷ []; waiting = 256; held = 256 }

-- a row for each version, version 1 first
unfoldable pub versions : List Limits
versions = version1 ∷ []

-- by the version byte; those of version 1 for a version that there is not, whose image is refused before they are asked
unfoldable pub limits : Image → Limits
limits s = get_or versions (be 1 s 4 - 1) version1

-- how many rows of the kind k there may be
abbrev pub most : Image → ℕ → ℕ
most s k = get_or (limits s).most k 0

-- what the limits of each version pass, those of any image pass
pub limits_pass : (p : Limits → Bool) → T (every p versions) → (s : Image) → T (p (limits s))
unfolding limits versions every
limits_pass p e s = entry_at p versions version1 (T-left (p version1) _ e) e (be 1 s 4 - 1)

-- the law by which proofs go from a limit to a room: of no version is the limit larger
pub limits_fit : (f : Limits → ℕ) (room : ℕ) → T (every (λ l. leb (f l) room) versions) → (s : Image) → f (limits s) ≤ room
limits_fit f room e s = leb→le (f (limits s)) room (limits_pass (λ l. leb (f l) room) e s)
