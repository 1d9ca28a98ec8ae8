-- A scope as a row of words, and all scopes of an array of words: an instance of `Held` of crate lists. Any words are scopes. Assumes nothing.
use Rattle.std.specs.Prelude.{false, ◌≡◌, refl, List, [], ◌∷◌, ℕ, ◌+◌, ◌*◌, ◌/◌, ◌%◌, length, get_or, eqb}
use Rattle.lists.specs.Tests.{bit_of}
use Rattle.lists.specs.Held as H
use Rattle.tags.specs.Tags.{at}
use Rattle.tags.specs.Views.{of_clock}
pub use Rattle.machine.specs.State.{Scope}
use Rattle.machine.specs.State.{fresh_scope}
use Rattle.state_scopes.specs.declared.Scope as code

-- how many scopes there may be: as many as a table's count allows
abbrev pub most_scopes : ℕ
most_scopes = 32

abbrev pub scope_of : code.Scope → Scope
scope_of s = record { clock = of_clock s.clock; active = s.active; ever = s.ever }

-- what stands past the table's scopes
abbrev pub blank : Scope
blank = fresh_scope false

-- ---- the words of a scope

abbrev pub scope_words : ℕ
scope_words = 7

-- allowed, active and ever active in one word
unfoldable pub marks_word : Scope → ℕ
marks_word s = bit_of s.clock.allowed + bit_of s.active * 2 + bit_of s.ever * 4

unfoldable pub encode : Scope → List ℕ
encode s =
    marks_word s ∷ s.clock.G.offset ∷ s.clock.G.microstep ∷ s.clock.L.offset ∷ s.clock.L.microstep ∷ s.clock.S.offset ∷ s.clock.S.microstep ∷ []

unfoldable pub decode : List ℕ → Scope
decode r =
    record {
      clock =
          record {
            G = at (get_or r 1 0) (get_or r 2 0 % 4294967296);
            L = at (get_or r 3 0) (get_or r 4 0 % 4294967296);
            allowed = eqb (get_or r 0 0 % 2) 1;
            S = at (get_or r 5 0) (get_or r 6 0 % 4294967296);
          };
      active = eqb (get_or r 0 0 / 2 % 2) 1;
      ever = eqb (get_or r 0 0 / 4 % 2) 1;
    }

pub encode_long : (s : Scope) → length (encode s) ≡ scope_words
unfolding encode
encode_long s = refl

-- the scopes that an array of words holds
abbrev pub scopes_of : List ℕ → List Scope
scopes_of ws = H.things_of decode encode scope_words most_scopes encode_long ws

-- the words are those of the scopes that they hold, and no others
abbrev pub Whole : List ℕ → Type 0
Whole ws = H.Whole decode encode scope_words most_scopes encode_long ws

-- and these are the scopes
abbrev pub Held : List ℕ → List Scope → Type 0
Held ws l = H.Held decode encode scope_words most_scopes encode_long ws l
