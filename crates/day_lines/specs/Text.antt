-- Text as bytes: words, decimal numbers, and lists. Document 01, "The bench program". Assumes nothing.
use Rattle.std.specs.Prelude.{ℕ, zero, suc, ◌+◌, ◌/◌, ◌%◌, Bool, true, false, cond, List, [], ◌∷◌, ◌++◌}
use Prim.Native.Char.{code}
use Prim.Native.String.{String, [] as []ᵗ, ◌∷◌ as ◌∷ᵗ◌}

-- the bytes of a text in ASCII
abbrev pub text : String → List ℕ
text []ᵗ = []
text (c ∷ᵗ s) = code c ∷ text s

-- the byte of a digit
abbrev pub digit : ℕ → ℕ
digit d = 48 + d

-- nothing stands before the last digit where the rest is 0
abbrev pub rest : (ℕ → List ℕ) → ℕ → List ℕ
rest f zero = []
rest f (suc q) = f (suc q)

-- the last digit, and the tenth part before it; the bound is for antt alone
unfoldable pub decimal_in : ℕ → ℕ → List ℕ
decimal_in zero n = []
decimal_in (suc f) n = rest (decimal_in f) (n / 10) ++ (digit (n % 10) ∷ [])

unfoldable pub decimal : ℕ → List ℕ
decimal n = decimal_in (suc n) n

-- "Lists are joined by commas": a comma before each entry but the first
unfoldable pub joined : Bool → List (List ℕ) → List ℕ
joined more [] = []
joined more (e ∷ es) = cond more (text ",") [] ++ (e ++ joined true es)

-- there are some
abbrev pub some : {A : Type 0} → List A → Bool
some [] = false
some (a ∷ l) = true

-- ""-" if empty"
unfoldable pub listed : List (List ℕ) → List ℕ
listed es = cond (some es) (joined false es) (text "-")
