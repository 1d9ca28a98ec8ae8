-- Document 01, "The bench program": what stands at a place of a gate day, "big-endian records: length 4, version 1 (holding 1), op 1,
-- operands". The one definition of what is well formed. Assumes nothing.
use Rattle.std.specs.Prelude.{ℕ, zero, suc, ◌+◌, ◌*◌, Bool, true, false, cond, ◌&&◌, List, [], ◌∷◌, ltb, leb, eqb, length, take, drop}
use Rattle.lists.specs.Rows.{tab}
use Rattle.table_rows.specs.Bytes.{be}
use Rattle.tags.specs.Tags.{Tag, at}
use Rattle.machine.specs.Machine.{Call, plain, network, control, action, transit, pop}

pub data Record : Type 0 where
  call : Call → Record
  -- "refused 1", and the run goes on
  malformed : Record
  -- "refused 1", and the run stops
  cut : Record
  -- no byte is left
  over : Record

abbrev pub version : ℕ
version = 1

-- "count at most 128"
abbrev pub most_keys : ℕ
most_keys = 128

-- "A length over 512"
abbrev pub most_bytes : ℕ
most_bytes = 512

-- ---- the operands, at a place of the bytes that the length counts

-- "tag 12": an offset of 8 bytes, a microstep of 4
unfoldable pub tag_at : List ℕ → ℕ → Tag
tag_at b i = at (be 8 b i) (be 4 b (i + 8))

-- "Terminal is 0 or 1", and so is the kind
unfoldable pub is_bit : List ℕ → ℕ → Bool
is_bit b i = ltb (be 1 b i) 2

unfoldable pub is_one : List ℕ → ℕ → Bool
is_one b i = eqb (be 1 b i) 1

unfoldable pub is_zero : List ℕ → ℕ → Bool
is_zero b i = eqb (be 1 b i) 0

-- "count 2, reactions 2 each": the keys, in the record's order
abbrev pub key_at : List ℕ → ℕ → ℕ → ℕ
key_at b i j = be 2 b (i + 2 + 2 * j)

unfoldable pub keys_at : List ℕ → ℕ → List ℕ
keys_at b i = tab (key_at b i) 0 (be 2 b i)

-- they are the last operands: at most 128, and they "fill its length exactly"
unfoldable pub keys_fill : List ℕ → ℕ → Bool
keys_fill b i = leb (be 2 b i) most_keys && eqb (length b) (i + 2 + 2 * be 2 b i)

abbrev pub formed : Bool → Call → Record
formed b c = cond b (call c) malformed

-- "1 plain (tag 12, terminal 1, count 2, reactions 2 each)"
unfoldable pub plain_of : List ℕ → Record
plain_of b = formed (is_bit b 14 && keys_fill b 15) (plain (tag_at b 2) (is_one b 14) (keys_at b 15))

-- "2 network (no terminal)"
unfoldable pub network_of : List ℕ → Record
network_of b = formed (keys_fill b 14) (network (tag_at b 2) (keys_at b 14))

-- "3 control (tag)"
unfoldable pub control_of : List ℕ → Record
control_of b = formed (eqb (length b) 14) (control (tag_at b 2))

-- "4 action (action 2, then as 1)"
unfoldable pub action_of : List ℕ → Record
action_of b = formed (is_bit b 16 && keys_fill b 17) (action (be 2 b 2) (tag_at b 4) (is_one b 16) (keys_at b 17))

-- "5 transition (reactor 2, mode 2, kind 1: 0 reset, 1 history; tag)"
unfoldable pub transition_of : List ℕ → Record
transition_of b = formed (is_bit b 6 && eqb (length b) 19) (transit (be 2 b 2) (be 2 b 4) (is_zero b 6) (tag_at b 7))

-- "6 pop"
unfoldable pub pop_of : List ℕ → Record
pop_of b = formed (eqb (length b) 2) pop

unfoldable pub op_of : ℕ → List ℕ → Record
op_of op b =
    cond (eqb op 1) (plain_of b)
    (cond (eqb op 2) (network_of b)
    (cond (eqb op 3) (control_of b)
    (cond (eqb op 4) (action_of b)
    (cond (eqb op 5) (transition_of b)
    (cond (eqb op 6) (pop_of b) malformed)))))

-- a record by the bytes that its length counts: a call, or malformed
unfoldable pub body_of : List ℕ → Record
body_of b = cond (eqb (be 1 b 0) version) (op_of (be 1 b 1) b) malformed

-- whether a record is well formed
abbrev pub is_formed : Record → Bool
is_formed (call c) = true
is_formed malformed = false
is_formed cut = false
is_formed over = false

-- ---- the length before them: "The length counts what follows it."

pub data Length : Type 0 where
  counts : ℕ → Length
  broken : Length
  missing : Length

-- of the at most four bytes where a length is due: "A length over 512 .., or 1 to 3 bytes for one"
unfoldable pub length_of : List ℕ → Length
length_of b =
    cond (eqb (length b) 0) missing
    (cond (ltb (length b) 4) broken (cond (leb (be 4 b 0) most_bytes) (counts (be 4 b 0)) broken))

unfoldable pub length_at : List ℕ → ℕ → Length
length_at s i = length_of (take 4 (drop i s))

-- ---- a place of a gate day

-- "or past the end": the bytes behind the length
abbrev pub record_of : Length → List ℕ → Record
record_of (counts n) rest = cond (leb n (length rest)) (body_of (take n rest)) cut
record_of broken rest = cut
record_of missing rest = over

unfoldable pub record_at : List ℕ → ℕ → Record
record_at s i = record_of (length_at s i) (drop (i + 4) s)

-- where the next record is due
abbrev pub behind : ℕ → Length → ℕ
behind i (counts n) = i + 4 + n
behind i broken = i
behind i missing = i

-- "the run goes on", or "stops the run"
abbrev pub goes_on : Record → List Record → List Record
goes_on (call c) rest = call c ∷ rest
goes_on malformed rest = malformed ∷ rest
goes_on cut rest = cut ∷ []
goes_on over rest = []

-- each turn takes four bytes or more, so n turns are enough for n bytes
unfoldable pub records_in : ℕ → List ℕ → ℕ → List Record
records_in zero s i = goes_on (record_at s i) []
records_in (suc n) s i = goes_on (record_at s i) (records_in n s (behind i (length_at s i)))

-- the records of a gate day from a place on
unfoldable pub records_from : List ℕ → ℕ → List Record
records_from s i = records_in (length s) s i
