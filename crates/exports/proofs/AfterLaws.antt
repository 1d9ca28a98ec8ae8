-- The state after a day's records, piece by piece: what a piece leaves keeps the rules and is what its arrays hold. Assumes nothing.
use mathlib.Core.Bool.{Bool, true, false, cond, ◌||◌}
use mathlib.Core.Path.{◌≡◌, refl, ap, ◌∙◌, sym}
use mathlib.Core.Logic.{◌⊎◌, inl, inr}
use mathlib.Core.List.{List, [], append-nil}
use Prim.Native.Nat.{ℕ, zero, suc, ◌+◌, ◌-◌, ◌≤◌, ◌<◌}
use lib.Dec.{eqb}
use native.Mathlib.Omega.{arith}
use lib.ListN.{length, take, drop, length-drop}
use lib.Seq.{drop-drop}
use borrow.Author.Tests.{eq-eqb, ne_eqb}
use Rattle.lists.specs.Tests.{same?}
use Rattle.table_rows.specs.Bytes.{Image}
use Rattle.machine.specs.State.{State, fresh}
use Rattle.machine.specs.Machine.{run}
use Rattle.state_room.specs.Holds.{Rows, rows_of, state_in}
use Rattle.state_room.proofs.Holds.{state_is}
use Rattle.day_records.specs.Records.{records_from}
use Rattle.day_records.proofs.DayLaws.{records_behind}
use Rattle.day_run.specs.Days.{Ran, calls_of, ran}
use Rattle.day_run.proofs.WholeLaws.{rest_is, over_rests, ran_state, rests_calls}
use Rattle.day_run.specs.Views.{Kept, Pieced}
use Rattle.day_run.specs.declared.Pieces.{Pieces}
use Rattle.exports.specs.State.{after_all}

-- ---- piece by piece

-- room for the lines of a piece
abbrev pub scratch : ℕ
scratch = 65536

-- the state after as many pieces as there are, or n; each but the last takes four bytes or more
unfoldable pub after_in : ℕ → Image → List ℕ → State → State
after_in zero img bytes s = s
after_in (suc n) img bytes s =
    let r = ran img bytes s scratch in
    cond (r.ended || eqb r.used 0) r.state (after_in n img (drop r.used bytes) r.state)

abbrev called : Image → List ℕ → State → ℕ → State
called img bytes s i = run img s (calls_of (records_from bytes i))

module _ (img : Image) (bytes : List ℕ) (s : State) where
  abbrev first : Ran
  first = ran img bytes s scratch

  -- the state after a piece, or after the pieces behind it
  abbrev pieces : ℕ → Bool → State
  pieces n b = cond b first.state (after_in n img (drop first.used bytes) first.state)

  abbrev calls : Bool → State
  calls b = cond b first.state (called img bytes first.state first.used)

  all : called img bytes s 0 ≡ calls first.ended
  all = rw (append-nil bytes) at (ran_state img bytes [] s scratch)

  one_more : (n : ℕ) → length bytes ≤ suc n → (e : Bool) → first.ended ≡ e → (first.used ≡ 0) ⊎ (first.used ≡ 0 → ⊥) →
      ((b : List ℕ) (t : State) → length b ≤ n → after_in n img b t ≡ called img b t 0) → pieces n (first.ended || eqb first.used 0) ≡ called img bytes s 0
  one_more n h true e u f = ap (λ b. pieces n (b || eqb first.used 0)) e ∙ sym (all ∙ ap calls e)
  one_more n h false e (inl u) f =
      ap (λ b. pieces n (b || eqb first.used 0)) e ∙
      (ap (pieces n) (eq-eqb first.used 0 u) ∙
      sym (all ∙ (ap calls e ∙ (ap (called img bytes first.state) u ∙ rests_calls img bytes s first.state scratch (omega arith) u e))))
  one_more n h false e (inr u) f =
      let d = length-drop first.used bytes in
      ap (λ b. pieces n (b || eqb first.used 0)) e ∙
      (ap (pieces n) (ne_eqb first.used 0 u) ∙
      (f (drop first.used bytes) first.state (omega (arith, d, h, u)) ∙
      sym (all ∙ (ap calls e ∙ ap (λ rs. run img first.state (calls_of rs)) (records_behind bytes first.used)))))

-- it is the state after all calls
after_called : (n : ℕ) (img : Image) (bytes : List ℕ) (s : State) → length bytes ≤ n → after_in n img bytes s ≡ called img bytes s 0
unfolding after_in calls_of run
after_called zero img bytes s h = sym (ap (λ rs. run img s (calls_of rs)) (over_rests bytes 0 h))
after_called (suc n) img bytes s h =
    one_more img bytes s n h (ran img bytes s scratch).ended refl (same? (ran img bytes s scratch).used 0) λ b t k. after_called n img b t k

-- ---- what a piece leaves

module _ {img : Image} {bytes : List ℕ} {d : Rows} {p : Pieces} {old new : List ℕ} (k : Kept img d) (w : Pieced img (ran img bytes (state_in img d) scratch) p bytes old new) where
  abbrev R : Ran
  R = ran img bytes (state_in img d) scratch

  pub view_is : state_in img (rows_of p.day) ≡ R.state
  view_is = state_is img R.state (rows_of p.day) w.holds

  module _ (n : ℕ) where
    abbrev test : Bool → ℕ → State
    test e u = cond (e || eqb u 0) R.state (after_in n img (drop R.used bytes) R.state)

    unrolled : after_in (suc n) img bytes (state_in img d) ≡ test R.ended R.used
    unfolding after_in
    unrolled = refl

    -- a bad length ended the run
    pub ends : p.ended ≡ true → state_in img (rows_of p.day) ≡ after_in (suc n) img bytes (state_in img d)
    ends e = view_is ∙ sym (unrolled ∙ ap (λ t. test t R.used) (sym w.ended ∙ e))

    -- nothing more was taken
    pub rests : p.ended ≡ false → p.used ≡ 0 → state_in img (rows_of p.day) ≡ after_in (suc n) img bytes (state_in img d)
    rests e u =
        view_is ∙ sym (unrolled ∙ (ap (λ t. test t R.used) (sym w.ended ∙ e) ∙
        ap (λ b. cond b R.state (after_in n img (drop R.used bytes) R.state)) (eq-eqb R.used 0 (sym w.used ∙ u))))

    -- one piece more
    pub goes_on_lem : p.ended ≡ false → (p.used ≡ 0 → ⊥) → after_in (suc n) img bytes (state_in img d) ≡ after_in n img (drop p.used bytes) (state_in img (rows_of p.day))
    goes_on_lem e u =
        unrolled ∙ (ap (λ t. test t R.used) (sym w.ended ∙ e) ∙
        (ap (λ b. cond b R.state (after_in n img (drop R.used bytes) R.state)) (ne_eqb R.used 0 (λ z. u (w.used ∙ z))) ∙
        (ap (λ m. after_in n img (drop m bytes) R.state) (sym w.used) ∙ ap (after_in n img (drop p.used bytes)) (sym view_is))))

pub after_begins : (img : Image) (records : List ℕ) (d : Rows) → state_in img d ≡ fresh img → after_all img records ≡ after_in (length records) img (drop 0 records) (state_in img d)
unfolding after_all
after_begins img records d e =
    sym (after_called (length records) img records (fresh img) (omega arith)) ∙ ap (after_in (length records) img records) (sym e)

-- ---- one turn of the loop

module _ (img : Image) (records : List ℕ) (at turns : ℕ) (d : Rows) (p : Pieces) (lines new : List ℕ) (k : Kept img d) (l : scratch ≡ length lines)
    (i : after_all img records ≡ after_in turns img (drop at records) (state_in img d)) (t : 0 < turns)
    (w : Pieced img (ran img (take (length records - at) (drop at records)) (state_in img d) (length lines)) p (take (length records - at) (drop at records)) lines new) where
  piece : Pieced img (ran img (drop at records) (state_in img d) scratch) p (drop at records) lines new
  piece = rw l (rw (rest_is records at) at w)

  unrolls : turns ≡ suc (turns - 1)
  unrolls = omega (arith, t)

  unrolled_here : after_all img records ≡ after_in (suc (turns - 1)) img (drop at records) (state_in img d)
  unrolled_here = i ∙ ap (λ n. after_in n img (drop at records) (state_in img d)) unrolls

  pub all_ends : p.ended ≡ true → state_in img (rows_of p.day) ≡ after_all img records
  all_ends e = ends k piece (turns - 1) e ∙ sym unrolled_here

  pub all_rests : p.ended ≡ false → p.used ≡ 0 → state_in img (rows_of p.day) ≡ after_all img records
  all_rests e u = rests k piece (turns - 1) e u ∙ sym unrolled_here

  pub all_on : p.ended ≡ false → (p.used ≡ 0 → ⊥) → after_all img records ≡ after_in (turns - 1) img (drop (at + p.used) records) (state_in img (rows_of p.day))
  all_on e u = unrolled_here ∙ (goes_on_lem k piece (turns - 1) e u ∙ ap (λ r. after_in (turns - 1) img r (state_in img (rows_of p.day))) (drop-drop p.used at records))

  pub all_inside : at ≤ length records → at + p.used ≤ length records
  all_inside h = let b = piece.inside in let e = length-drop at records in omega (arith, h, b, e)

pub all_over : (img : Image) (records : List ℕ) (at turns : ℕ) (d : Rows) → turns ≤ 0 → after_all img records ≡ after_in turns img (drop at records) (state_in img d) →
    state_in img d ≡ after_all img records
unfolding after_in
all_over img records at turns d t i =
    let z : turns ≡ 0 = omega (arith, t) in
    sym (i ∙ ap (λ n. after_in n img (drop at records) (state_in img d)) z)
