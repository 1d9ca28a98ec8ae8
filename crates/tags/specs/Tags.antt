-- Document 01, "Tags": tags, scope clocks, and what the delay and the two maps answer. Assumes nothing.
use Rattle.std.specs.Prelude.{ℕ, ◌+◌, ◌-◌, Bool, true, false, cond, not, ◌&&◌, ◌||◌, ltb, leb, eqb, ℤ, pos, negsuc, ◌+ℤ◌, ◌-ℤ◌}
use Rattle.lists.specs.Walk.{Result, done, refused}
use Rattle.refusals.specs.declared.Refusal.{Refusal}
use Rattle.refusals.specs.declared.Refusal.TheVariants.{ArgumentTag, MappedTag, StateRule}

-- ---- "A tag is an offset in nanoseconds, 0 to 2^62 - 1, and a microstep, 0 to 4,294,967,295; order is offset first."

-- on either scale
pub record Tag : Type 0 where
  pub offset : ℕ
  pub microstep : ℕ

abbrev pub max_offset : ℕ
max_offset = 4611686018427387903

abbrev pub max_microstep : ℕ
max_microstep = 4294967295

abbrev pub at : ℕ → ℕ → Tag
at o m = record { offset = o; microstep = m }

abbrev pub zero_tag : Tag
zero_tag = at 0 0

unfoldable pub within : Tag → Bool
within t = leb t.offset max_offset && leb t.microstep max_microstep

unfoldable pub same_tag : Tag → Tag → Bool
same_tag t u = eqb t.offset u.offset && eqb t.microstep u.microstep

-- offset first
unfoldable pub earlier : Tag → Tag → Bool
earlier t u = ltb t.offset u.offset || (eqb t.offset u.offset && ltb t.microstep u.microstep)

-- a tag, or the refusal
abbrev pub Answer : Type 0
Answer = Result Refusal Tag

-- "the delay by zero, which adds one microstep": 6 of what is no tag, 7 past the limit
unfoldable pub delayed : Tag → Answer
delayed t =
    cond (within t)
    (cond (ltb t.microstep max_microstep) (done (at t.offset (t.microstep + 1))) (refused MappedTag))
    (refused ArgumentTag)

-- ---- "A scope clock has activation global G, activation local L, allowed (yes/no) and suspended local S."

pub record Clock : Type 0 where
  pub G : Tag
  pub L : Tag
  pub allowed : Bool
  pub S : Tag

-- "Fresh: all tags zero, allowed if the scope starts active."
abbrev pub fresh_clock : Bool → Clock
fresh_clock active = record { G = zero_tag; L = zero_tag; allowed = active; S = zero_tag }

-- ---- "Differences are signed; only the final tag must lie within the limits."

-- what is no tag yet: the offset may be negative, and neither part need lie within the limits
pub record Shifted : Type 0 where
  pub offset : ℤ
  pub microstep : ℕ

-- to + (x - from): "offset L + (g - G); microstep L + (g - G) if g's offset is G's and its microstep is at least G's, otherwise g's own"
unfoldable pub shifted : Tag → Tag → Tag → Shifted
shifted to from x =
    record {
      offset = pos to.offset +ℤ (pos x.offset -ℤ pos from.offset);
      microstep =
          cond (eqb x.offset from.offset && leb from.microstep x.microstep)
          (to.microstep + (x.microstep - from.microstep)) x.microstep;
    }

-- the final tag, or 7
abbrev pub settled_tag : ℤ → ℕ → Answer
settled_tag (pos o) m = cond (within (at o m)) (done (at o m)) (refused MappedTag)
settled_tag (negsuc o) m = refused MappedTag

abbrev pub settled : Shifted → Answer
settled p = settled_tag p.offset p.microstep

-- ---- the two maps

-- "Global g to local: if G = L, g. Else" as above
unfoldable pub to_local : Clock → Tag → Answer
to_local c g = cond (same_tag c.G c.L) (done g) (settled (shifted c.L c.G g))

-- "The local-to-global map shall also answer whether it moved the tag because the result was earlier than G, or equal to G and not allowed." (02, C-20)
pub record Mapped : Type 0 where
  pub tag : Tag
  pub held : Bool

abbrev pub MappedAnswer : Type 0
MappedAnswer = Result Refusal Mapped

abbrev pub flagged : Bool → Answer → MappedAnswer
flagged held (done t) = done (record { tag = t; held = held })
flagged held (refused n) = refused n

-- "earlier than G, or equal to G and not allowed"
abbrev pub held_back : Tag → Bool → Tag → Bool
held_back G allowed t = earlier t G || (same_tag t G && not allowed)

-- .. "becomes G delayed by zero"
abbrev pub placed : Tag → Bool → ℤ → ℕ → MappedAnswer
placed G allowed (pos o) m = cond (held_back G allowed (at o m)) (flagged true (delayed G)) (flagged false (settled_tag (pos o) m))
placed G allowed (negsuc o) m = flagged true (delayed G)

-- "Local x to global: if G = L and allowed, x. Else the same with G and L exchanged, and a result earlier than G,
-- or equal to G and not allowed, becomes G delayed by zero."
unfoldable pub to_global : Clock → Tag → MappedAnswer
to_global c x =
    cond (same_tag c.G c.L && c.allowed) (flagged false (done x))
    (let p = shifted c.G c.L x in placed c.G c.allowed p.offset p.microstep)

-- the tag alone, for those who need no more
abbrev pub tag_only : MappedAnswer → Answer
tag_only (done m) = done m.tag
tag_only (refused n) = refused n

abbrev pub image_of : Clock → Tag → Answer
image_of c x = tag_only (to_global c x)

-- held back; what is refused is not
abbrev pub held_in : MappedAnswer → Bool
held_in (done m) = m.held
held_in (refused n) = false

-- ---- the calls: 11 of a clock beyond the limits, then 6 of an argument beyond them, then 7

unfoldable pub within_clock : Clock → Bool
within_clock c = within c.G && (within c.L && within c.S)

unfoldable pub checked : {A : Type 0} → Clock → Tag → Result Refusal A → Result Refusal A
checked c t a = cond (within_clock c) (cond (within t) a (refused ArgumentTag)) (refused StateRule)

unfoldable pub global_to_local : Clock → Tag → Answer
global_to_local c g = checked c g (to_local c g)

unfoldable pub local_to_global : Clock → Tag → MappedAnswer
local_to_global c x = checked c x (to_global c x)
