-- Document 01's worked examples m1 to m11 and s1 to s3: one table, over which proofs/ has one proof, and what the definitions answer. Assumes nothing.
use Rattle.std.specs.Prelude.{ℕ, true, false}
use mathlib.Core.List.{List, [], ◌∷◌}
use Rattle.lists.specs.Walk.{done, refused}
use Rattle.refusals.specs.declared.Refusal.TheVariants.{MappedTag}
use Rattle.table_rows.specs.Limits.{version1}
use Rattle.tags.specs.Tags as tag
use Rattle.tags.specs.Tags.{Tag, Clock, at, zero_tag, global_to_local, local_to_global}
use Rattle.store.specs.Store.{Store, empty_store}
use Rattle.value_store.specs.Calls.{Call, push, next, take_out, clear_before_lem, move, Answer, ok, number, nothing_there, said_by, left_by, perform}

pub data Name : Type 0 where
  m1 : Name
  m2 : Name
  m3 : Name
  m4 : Name
  m5 : Name
  m6 : Name
  m7 : Name
  m8 : Name
  m9 : Name
  m10 : Name
  m11 : Name
  s1 : Name
  s2 : Name
  s3 : Name

-- a clock and a local or a global tag; or calls on an empty store
pub data Asked : Type 0 where
  to_global_lem : Clock → Tag → Asked
  to_local_lem : Clock → Tag → Asked
  calls : List Call → Asked

-- a tag or the refusal, to the global scale with whether it was held back; or what each call answers
pub data Said : Type 0 where
  mapped : tag.MappedAnswer → Said
  tagged : tag.Answer → Said
  answers : List Answer → Said

pub record Row : Type 0 where
  pub name : Name
  pub asked : Asked
  pub said : Said

abbrev pub row : Name → Asked → Said → Row
row n a s = record { name = n; asked = a; said = s }

-- "Not allowed", by its G and L
abbrev pub clock : Tag → Tag → Clock
clock G L = record { G = G; L = L; allowed = false; S = zero_tag }

abbrev pub tag_at : ℕ → ℕ → Said
tag_at o m = tagged (done (at o m))

-- moved to G delayed by zero, or not (02, C-20)
abbrev pub held : ℕ → ℕ → Said
held o m = mapped (done (record { tag = at o m; held = true }))

abbrev pub not_held : ℕ → ℕ → Said
not_held o m = mapped (done (record { tag = at o m; held = false }))

-- ---- the table, in document 01's order; every call names action 0

unfoldable pub table : List Row
table =
    row m1 (to_global_lem (clock (at 100 2) (at 40 1)) (at 40 1)) (held 100 3) ∷
    row m2 (to_global_lem (clock (at 100 2) (at 40 1)) (at 40 3)) (not_held 100 4) ∷
    row m3 (to_global_lem (clock (at 100 2) (at 40 1)) (at 40 0)) (held 100 3) ∷
    row m4 (to_global_lem (clock (at 100 2) (at 40 1)) (at 39 9)) (held 100 3) ∷
    row m5 (to_local_lem (clock (at 100 2) (at 40 1)) (at 100 1)) (tag_at 40 1) ∷
    row m6 (to_local_lem (clock (at 100 2) (at 40 1)) (at 115 0)) (tag_at 55 0) ∷
    row m7 (to_local_lem (clock (at 100 2) (at 40 1)) (at 59 0)) (tagged (refused MappedTag)) ∷
    row m8 (to_global_lem (clock (at 100 2) (at 40 9)) (at 40 7)) (not_held 100 7) ∷
    row m9 (to_global_lem (clock (at 100 2) (at 40 9)) (at 40 9)) (held 100 3) ∷
    row m10 (to_global_lem (clock (at 7 0) (at 7 0)) (at 7 0)) (held 7 1) ∷
    row m11 (to_global_lem (clock (at 100 4294967295) (at 0 0)) (at 0 0)) (mapped (refused MappedTag)) ∷
    -- "after a push at (5,4294967295), offset 5 with least 0 answers none"
    row s1 (calls (push 0 (at 5 4294967295) 11 ∷ next 0 5 0 ∷ [])) (answers (ok ∷ nothing_there ∷ [])) ∷
    -- "values at (5,1) and (5,3), cleared before (5,2): (5,3) stays, next microstep 4"
    row s2
    (calls (push 0 (at 5 1) 11 ∷ push 0 (at 5 3) 13 ∷ clear_before_lem 0 (at 5 2) ∷ take_out 0 (at 5 1) ∷ next 0 5 0 ∷ take_out 0 (at 5 3) ∷ []))
    (answers (ok ∷ ok ∷ ok ∷ nothing_there ∷ number 4 ∷ number 13 ∷ [])) ∷
    -- "A move between equal tags, as (5,1) to (5,1), does nothing (s3), and so does a move of a value not held."
    row s3
    (calls (push 0 (at 5 1) 11 ∷ move 0 (at 5 1) (at 5 1) ∷ move 0 (at 6 0) (at 7 0) ∷ next 0 7 0 ∷ next 0 5 0 ∷ take_out 0 (at 5 1) ∷ []))
    (answers (ok ∷ ok ∷ ok ∷ number 0 ∷ number 2 ∷ number 11 ∷ [])) ∷ []

-- ---- what the definitions answer

-- as many held as version 1 allows
unfoldable pub performed : Store → List Call → List Answer
performed s [] = []
performed s (c ∷ cs) = let r = perform version1.held s c in said_by r ∷ performed (left_by s r) cs

abbrev pub answer_of : Asked → Said
answer_of (to_global_lem c x) = mapped (local_to_global c x)
answer_of (to_local_lem c g) = tagged (global_to_local c g)
answer_of (calls cs) = answers (performed empty_store cs)
