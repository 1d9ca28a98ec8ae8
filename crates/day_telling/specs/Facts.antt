-- What a day's tale is told from, as lists of numbers. Assumes nothing.
use Rattle.std.specs.Prelude.{ℕ, ◌/◌, ◌%◌, cond, List, [], ◌∷◌, ◌++◌, ltb, eqb, get_or, Result, Ok, Err}
use Rattle.lists.specs.Tests.{bit_of}
use Rattle.lists.specs.Walk.{done, refused}
use Rattle.table_rows.specs.Bytes.{Image}
use Rattle.table_rows.specs.Kinds.{count, reactor, mode, reaction, action}
use Rattle.tags.specs.Tags.{Tag, Answer, to_local, to_global, tag_only, held_in}
use Rattle.machine.specs.State.{root}
use Rattle.state_scopes.specs.Scopes.{Scope, blank}
use Rattle.day_lines.specs.Text.{text, decimal}
use Rattle.day_records.specs.declared.Malformed.{Malformed}
use Rattle.day_records.specs.declared.Parsed.{Parsed}
use Rattle.day_records.specs.declared.Parsed.TheVariants.{Plain, Network, Control, Action, Transition, Pop}

-- ---- time: hours, minutes, seconds and nanoseconds

abbrev pub second : ℕ
second = 1000000000

abbrev pub minute : ℕ
minute = 60000000000

abbrev pub hour : ℕ
hour = 3600000000000

abbrev pub day : ℕ
day = 86400000000000

-- an offset and its whole days; its hours, and of what is left the minutes, of what is left the seconds, and what is left then
unfoldable pub time_words : ℕ → List ℕ
time_words o = o ∷ o / day ∷ o / hour ∷ o % hour / minute ∷ o % minute / second ∷ o % second ∷ []

-- ---- tags on the two scales

abbrev pub found : Answer → ℕ
found (done t) = 1
found (refused n) = 0

abbrev pub offset_in : Answer → ℕ
offset_in (done t) = t.offset
offset_in (refused n) = 0

abbrev pub microstep_in : Answer → ℕ
microstep_in (done t) = t.microstep
microstep_in (refused n) = 0

-- queue, tag, active, image on the global scale, held back
unfoldable pub scope_place : Scope → ℕ → Tag → List ℕ
scope_place s q t =
    let m = to_global s.clock t in
    let g = tag_only m in
    q ∷ t.offset ∷ t.microstep ∷ bit_of s.active ∷ found g ∷ offset_in g ∷ microstep_in g ∷ bit_of (held_in m) ∷ []

-- the root's tags are global, and never held back
unfoldable pub place_words : List Scope → ℕ → Tag → List ℕ
place_words ss q t =
    cond (eqb q root) (q ∷ t.offset ∷ t.microstep ∷ 1 ∷ 1 ∷ t.offset ∷ t.microstep ∷ 0 ∷ []) (scope_place (get_or ss q blank) q t)

unfoldable pub scope_words : ℕ → Scope → List ℕ
scope_words i s =
    let c = s.clock in
    i ∷ bit_of s.active ∷ bit_of s.ever ∷ bit_of c.allowed ∷
    c.G.offset ∷ c.G.microstep ∷ c.L.offset ∷ c.L.microstep ∷ c.S.offset ∷ c.S.microstep ∷ []

unfoldable pub local_words : ℕ → Scope → Tag → List ℕ
local_words i s g = let l = to_local s.clock g in i ∷ found l ∷ offset_in l ∷ microstep_in l ∷ []

-- ---- calls

-- op, action or reactor, mode, terminal or reset, tag
abbrev pub call_words : Result Parsed Malformed → List ℕ
call_words (Ok (Plain t terminal n)) = 1 ∷ 0 ∷ 0 ∷ bit_of terminal ∷ t.0 ∷ t.1 ∷ []
call_words (Ok (Network t n)) = 2 ∷ 0 ∷ 0 ∷ 0 ∷ t.0 ∷ t.1 ∷ []
call_words (Ok (Control t)) = 3 ∷ 0 ∷ 0 ∷ 0 ∷ t.0 ∷ t.1 ∷ []
call_words (Ok (Action a t terminal n)) = 4 ∷ a ∷ 0 ∷ bit_of terminal ∷ t.0 ∷ t.1 ∷ []
call_words (Ok (Transition r m reset t)) = 5 ∷ r ∷ m ∷ bit_of reset ∷ t.0 ∷ t.1 ∷ []
call_words (Ok Pop) = 6 ∷ 0 ∷ 0 ∷ 0 ∷ 0 ∷ 0 ∷ []
call_words (Err e) = 0 ∷ 0 ∷ 0 ∷ 0 ∷ 0 ∷ 0 ∷ []

-- "a key the table lacks": its kind and the key
abbrev pub lack : ℕ → ℕ → List ℕ
lack k i = 1 ∷ k ∷ i ∷ []

abbrev pub no_lack : List ℕ
no_lack = 0 ∷ 0 ∷ 0 ∷ []

-- the first key that is none of n
unfoldable pub lacking_reaction : ℕ → List ℕ → List ℕ
lacking_reaction n [] = no_lack
lacking_reaction n (k ∷ ks) = cond (ltb k n) (lacking_reaction n ks) (lack reaction k)

-- the action before the reactions, the reactor before the mode
abbrev pub lacking_of : Image → Result Parsed Malformed → List ℕ → List ℕ
lacking_of s (Ok (Plain t terminal n)) ks = lacking_reaction (count s reaction) ks
lacking_of s (Ok (Network t n)) ks = lacking_reaction (count s reaction) ks
lacking_of s (Ok (Control t)) ks = no_lack
lacking_of s (Ok (Action a t terminal n)) ks = cond (ltb a (count s action)) (lacking_reaction (count s reaction) ks) (lack action a)
lacking_of s (Ok (Transition r m reset t)) ks =
    cond (ltb r (count s reactor)) (cond (ltb m (count s mode)) no_lack (lack mode m)) (lack reactor r)
lacking_of s (Ok Pop) ks = no_lack
lacking_of s (Err e) ks = no_lack

-- ---- a line: a name, and a space before each number

unfoldable pub words_text : List ℕ → List ℕ
words_text [] = []
words_text (w ∷ ws) = text " " ++ (decimal w ++ words_text ws)

unfoldable pub fact_text : List ℕ → List ℕ → List ℕ
fact_text name ws = name ++ (words_text ws ++ text "\n")
