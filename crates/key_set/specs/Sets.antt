-- Document 01, "Values and level walks": sets of keys as lists of 64-bit words, of any number of words.
-- Key k is bit k % 64 of word k / 64. A key beyond the last word is in no set, and inserting it changes nothing. Assumes nothing.
use Rattle.std.specs.Prelude.{ℕ, ◌*◌, ◌/◌, ◌%◌, ◌^◌, Bool, List, [], ◌∷◌, eqb, length, get_or, set, replicate}
use Rattle.std.proofs.Math.Option.{Option}
use Rattle.std.specs.Int.Bits.{bit_or}
use Rattle.lists.specs.Lists.{keep, foldl}
use Rattle.lists.specs.Ranges.{first, those}

-- how many words a set of the code has: the only place that says so
abbrev pub word_count : ℕ
word_count = 2

-- how many keys so many words can have
abbrev pub capacity : List ℕ → ℕ
capacity ws = length ws * 64

-- ---- what is in a set

-- bit j of x, 0 or 1
unfoldable pub bit : ℕ → ℕ → ℕ
bit x j = x / 2 ^ j % 2

-- key k is in the set
unfoldable pub has : List ℕ → ℕ → Bool
has ws k = eqb (bit (get_or ws (k / 64) 0) (k % 64)) 1

-- the keys of the set at or above k, ascending
unfoldable pub keys_from : List ℕ → ℕ → List ℕ
keys_from ws k = those (has ws) k (capacity ws)

-- the keys of the set, ascending
abbrev pub keys_of : List ℕ → List ℕ
keys_of ws = keys_from ws 0

-- the lowest key at or above k, if there is one
unfoldable pub lowest_from : List ℕ → ℕ → Option ℕ
lowest_from ws k = first (keys_from ws k)

-- "a level's size is its number of keys"
unfoldable pub size_of : List ℕ → ℕ
size_of ws = length (keys_of ws)

unfoldable pub is_empty_of : List ℕ → Bool
is_empty_of ws = eqb (size_of ws) 0

-- ---- sets from sets

-- n words, and no key
abbrev pub no_keys : ℕ → List ℕ
no_keys n = replicate n 0

-- the set with key k
unfoldable pub insert_key : List ℕ → ℕ → List ℕ
insert_key ws k = set ws (k / 64) (bit_or (get_or ws (k / 64) 0) (2 ^ (k % 64)))

-- the keys of either, in as many words as the first
unfoldable pub union_of : List ℕ → List ℕ → List ℕ
union_of [] vs = []
union_of (a ∷ us) [] = a ∷ us
union_of (a ∷ us) (b ∷ vs) = bit_or a b ∷ union_of us vs

-- the keys of the set that pass a test, in as many words
unfoldable pub only_keys : (ℕ → Bool) → List ℕ → List ℕ
only_keys p ws = foldl insert_key (no_keys (length ws)) (keep p (keys_of ws))
