-- The code's values as document 01's: one line for each type, and what the code's steps between mean. Assumes nothing.
use Rattle.std.specs.Prelude.{ℕ, Bool, true, false, cond, ltb, ℤ, pos, negsuc, Ok, Err}
use Rattle.std.specs.Prelude as code
use Rattle.lists.specs.Walk.{Result, done, refused}
use Rattle.refusals.specs.declared.Refusal.{Refusal}
use Rattle.refusals.specs.declared.Refusal.TheVariants.{MappedTag}
use Rattle.tags.specs.declared.GlobalTag.{GlobalTag}
use Rattle.tags.specs.declared.LocalTag.{LocalTag}
use Rattle.tags.specs.declared.QueueTag.{QueueTag}
use Rattle.tags.specs.declared.ScopeClock.{ScopeClock}
use Rattle.tags.specs.declared.Mapped as M
use Rattle.tags.specs.declared.Place.{Place}
use Rattle.tags.specs.declared.Place.TheVariants.{Below, Beyond, At}
use Rattle.tags.specs.Tags.{Tag, Clock, Answer, Shifted, MappedAnswer, at, delayed, settled_tag, flagged, held_back, placed}

abbrev pub of_global : GlobalTag → Tag
of_global t = at t.0 t.1

abbrev pub of_local : LocalTag → Tag
of_local t = at t.0 t.1

-- on whichever scale its queue has
abbrev pub of_queue : QueueTag → Tag
of_queue t = at t.0 t.1

abbrev pub of_clock : ScopeClock → Clock
of_clock c =
    record {
      G = of_global c.activation_global;
      L = of_local c.activation_local;
      allowed = c.allowed;
      S = of_local c.suspended_local;
    }

-- ---- answers: the tag, or the refusal (`number_of` of crate refusals gives its number)

-- of any scale
abbrev pub answered : {T : Type 0} → (T → Tag) → code.Result T Refusal → Answer
answered f (Ok t) = done (f t)
answered f (Err r) = refused r

-- that a clock and a tag lie within the limits
abbrev pub of_check : code.Result Unit Refusal → Result Refusal Unit
of_check (Ok x) = done x
of_check (Err r) = refused r

abbrev pub delayed_global : code.Result GlobalTag Refusal → Answer
delayed_global = answered of_global

abbrev pub delayed_local : code.Result LocalTag Refusal → Answer
delayed_local = answered of_local

abbrev pub mapped_global : code.Result M.Mapped Refusal → MappedAnswer
mapped_global (Ok m) = done (record { tag = of_global m.tag; held = m.held })
mapped_global (Err r) = refused r

abbrev pub mapped_local : code.Result LocalTag Refusal → Answer
mapped_local = answered of_local

-- ---- places: below zero all are alike, and so are all that 64 bits don't hold

abbrev pub wide : ℕ
wide = 18446744073709551616

abbrev pub place_at : ℤ → ℕ → Place
place_at (pos o) m = cond (ltb o wide) (At o m) Beyond
place_at (negsuc o) m = Below

abbrev pub place_of : Shifted → Place
place_of p = place_at p.offset p.microstep

-- the final tag of a place, and what it becomes where it may be held back
abbrev pub settled_at : Place → Answer
settled_at (At o m) = settled_tag (pos o) m
settled_at Beyond = refused MappedTag
settled_at Below = refused MappedTag

-- held back, where it is a place at all
abbrev pub held_at : Tag → Bool → Place → Bool
held_at G allowed (At o m) = held_back G allowed (at o m)
held_at G allowed Beyond = false
held_at G allowed Below = true

abbrev pub placed_at : Tag → Bool → Place → MappedAnswer
placed_at G allowed (At o m) = placed G allowed (pos o) m
placed_at G allowed Beyond = refused MappedTag
placed_at G allowed Below = flagged true (delayed G)
