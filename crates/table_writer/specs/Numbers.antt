-- The counts and rows of a table from numbers of eight bytes: nine counts, then three for each row, its fields. Assumes nothing.
use Rattle.std.specs.Prelude.{ℕ, zero, suc, ◌+◌, ◌*◌, List, [], ◌++◌}
use Rattle.table_rows.specs.Bytes.{be, be_bytes}
use Rattle.table_rows.specs.Kinds.{kind_count}
use Rattle.table_rows.specs.Fields.{fields_of}

-- number n
unfoldable pub number_at : List ℕ → ℕ → ℕ
number_at ns n = be 8 ns (8 * n)

-- field f of row j, counted through all kinds
abbrev pub row_number : List ℕ → ℕ → ℕ → ℕ
row_number ns j f = number_at ns (kind_count + (3 * j + f))

-- the first k counts, two bytes each
unfoldable pub counts_in : List ℕ → ℕ → List ℕ
counts_in ns zero = []
counts_in ns (suc k) = counts_in ns k ++ be_bytes 2 (number_at ns k)

abbrev pub all_counts : List ℕ → List ℕ
all_counts ns = counts_in ns kind_count

-- row j as a row of the kind k: each field in its bytes
unfoldable pub row_bytes : ℕ → List ℕ → ℕ → List ℕ
row_bytes k ns j =
    be_bytes (fields_of k).first (row_number ns j 0) ++
    (be_bytes (fields_of k).second (row_number ns j 1) ++ be_bytes (fields_of k).third (row_number ns j 2))

-- n rows of the kind k from row j on
unfoldable pub kind_rows : ℕ → List ℕ → ℕ → ℕ → List ℕ
kind_rows k ns j zero = []
kind_rows k ns j (suc n) = kind_rows k ns j n ++ row_bytes k ns (j + n)

-- how many rows of the kind k there are by the counts' bytes
unfoldable pub count_in : List ℕ → ℕ → ℕ
count_in counts k = be 2 counts (2 * k)

-- and of all kinds before it
unfoldable pub rows_before : List ℕ → ℕ → ℕ
rows_before counts zero = 0
rows_before counts (suc k) = rows_before counts k + count_in counts k

-- the rows of the first k kinds, kind by kind
unfoldable pub rows_in : List ℕ → List ℕ → ℕ → List ℕ
rows_in counts ns zero = []
rows_in counts ns (suc k) = rows_in counts ns k ++ kind_rows k ns (rows_before counts k) (count_in counts k)

abbrev pub all_rows : List ℕ → List ℕ → List ℕ
all_rows counts ns = rows_in counts ns kind_count
