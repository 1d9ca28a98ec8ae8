-- Room for the output and the list, and a run in the list. Assumes nothing.
use Prim.Native.Nat.{ℕ, ◌+◌, ◌-◌, ◌/◌, ◌≤◌, ◌<◌}
use mathlib.Core.Bool.{Bool, false}
use mathlib.Core.Path.{◌≡◌, refl, sym, ◌∙◌}
use mathlib.Core.Logic.{⊎_elim}
use mathlib.Core.List.{List, [], ◌∷◌, ◌++◌, append-nil, append_assoc}
use native.Mathlib.Omega.{arith}
use lib.Dec.{leb}
use lib.ListN.{length, length-append}
use borrow.Author.Tests.{le-leb, lt-leb, eq-eqb, ne_eqb}
use Rattle.lists.specs.Tests.{and_no, below?, same?}
use Rattle.table_rows.specs.Bytes.{be_bytes}
use Rattle.byte_writer.proofs.NumberLaws.{number_length}
use Rattle.day_rescue.specs.declared.Run.{Run}
use Rattle.day_rescue.specs.Rescue.{run, past, listed, run_bytes, list_room, most_place, roomy, last_place}

same_test : (a b c d : ℕ) → (a ≤ b → c ≤ d) → (c ≤ d → a ≤ b) → leb a b ≡ leb c d
same_test a b c d f g =
    ⊎_elim (λ h. lt-leb a b h ∙ sym (⊎_elim (λ k. lt-leb c d k) (λ k. absurd (omega (arith, h, g k))) (below? d c))) (λ h. le-leb a b h ∙ sym (le-leb c d (f h))) (below? b a)

-- ---- room

module _ (n : ℕ) (r : Run) (out list : ℕ) where
  pub no_output : out < n → false ≡ roomy n r out list
  unfolding roomy
  no_output h = rw (lt-leb n out h)

  no_list : list < list_room n → false ≡ roomy n r out list
  unfolding roomy
  no_list h = rw (lt-leb (list_room n) list h, and_no (leb n out))

  pub list_short : list < 16 → false ≡ roomy n r out list
  list_short h = no_list (omega (arith, h))

  pub list_few : (list - 16) / 3 < n → false ≡ roomy n r out list
  list_few h = no_list (omega (arith, h))

  no_place : most_place < past r + n → false ≡ roomy n r out list
  unfolding roomy
  no_place h = rw (lt-leb (past r + n) most_place h, and_no (leb (list_room n) list), and_no (leb n out))

  pub place_far : most_place - r.place < r.length → false ≡ roomy n r out list
  place_far h = no_place (omega (arith, h))

  pub room_by_place : r.place ≤ most_place → n ≤ out → 16 ≤ list → n ≤ (list - 16) / 3 → r.length ≤ most_place - r.place →
      leb n (most_place - r.place - r.length) ≡ roomy n r out list
  unfolding roomy
  room_by_place p a b c d = rw (le-leb n out a, le-leb (list_room n) list (omega (arith, b, c))) (same_test n _ (past r + n) most_place (λ h. omega (arith, h, p, d)) (λ h. omega (arith, h)))

-- ---- the places that may be tried

pub last_few : (n : ℕ) {last : Bool} → last ≡ false → n < 515 → 0 ≡ last_place last n
last_few n e h = rw e (omega (arith, h))

pub last_many : (n : ℕ) {last : Bool} → last ≡ false → n - 515 ≡ last_place last n
last_many n e = rw e

-- ---- a run in the list

module _ (place many : ℕ) where
  pub run_none : many ≡ 0 → [] ≡ run_bytes (listed (run place many))
  unfolding run_bytes
  run_none e = rw e

  pub run_some : (many ≡ 0 → ⊥) → be_bytes 8 place ++ be_bytes 8 many ≡ run_bytes (listed (run place many))
  unfolding run_bytes
  run_some n = rw (ne_eqb many 0 n, append-nil (be_bytes 8 many))

pub run_append : (x y : List Run) → run_bytes (x ++ y) ≡ run_bytes x ++ run_bytes y
unfolding run_bytes
run_append [] y = refl
run_append (r ∷ x) y = rw (run_append x y, append_assoc (be_bytes 8 r.place) (be_bytes 8 r.length ++ run_bytes x) (run_bytes y), append_assoc (be_bytes 8 r.length) (run_bytes x) (run_bytes y))

-- a run takes sixteen bytes at most
pub run_long : (r : Run) → length (run_bytes (listed r)) ≤ 16
unfolding run_bytes
run_long r =
    ⊎_elim (λ e. rw (eq-eqb r.length 0 e) (omega arith))
    (λ e.
    rw (ne_eqb r.length 0 e, append-nil (be_bytes 8 r.length), length-append, number_length 8 r.place, number_length 8 r.length) (omega arith))
    (same? r.length 0)
