-- Document 02, C-23: what is kept has well-formed records only, and "A file whose records are all well formed comes out unchanged with an empty list."
-- So a rescue of what was rescued changes nothing. Assumes nothing.
use Prim.Native.Nat.{ℕ, ◌+◌, ◌-◌, ◌≤◌, ◌<◌}
use mathlib.Core.Bool.{Bool, true, false, cond, ◌&&◌}
use mathlib.Core.Path.{◌≡◌, refl, sym, ap, ◌∙◌}
use mathlib.Core.Logic.{⊎_elim}
use mathlib.Core.List.{List, [], ◌++◌}
use native.Mathlib.Nat.{le_refl}
use native.Mathlib.Omega.{arith}
use lib.Dec.{ltb, leb, eqb}
use lib.ListN.{length, take, drop, length-take, length-drop, length-append, take-append-drop}
use lib.Seq.{take-take, take-add, drop-drop, drop-length, drop_at, take_at, length-take-le, take-append-le, drop-append-le}
use borrow.Author.Tests.{eq-eqb, ne_eqb}
use Rattle.lists.specs.Lists.{every}
use Rattle.lists.specs.Tests.{same?, which, yes_no}
use Rattle.table_rows.specs.Bytes.{be}
use Rattle.machine.specs.Machine.{Call}
use Rattle.day_records.specs.Records.{Record, version, most_bytes, is_bit, keys_fill, call, malformed, cut, over, Length, counts, broken, missing, formed, is_formed, plain_of}
use Rattle.day_records.specs.Records.{network_of, control_of, action_of, transition_of, pop_of, op_of, body_of, length_of, length_at, record_of, record_at, behind, goes_on, records_from}
use Rattle.day_records.proofs.DayLaws.{record_there, records_step, records_behind}
use Rattle.day_records.proofs.FormedLaws.{Formed, formed_at, at_end, next_due}
use Rattle.day_run.proofs.WholeLaws.{over_rests}
use Rattle.day_rescue.specs.declared.Run.{Run}
use Rattle.day_rescue.specs.Rescue.{run, Walk, stopped, between, walk, rescue_from}
use Rattle.day_rescue.specs.Places.{Stands}
use Rattle.day_rescue.specs.Parts.{AllFormed}
use Rattle.day_rescue.proofs.WalkLaws.{ends_behind, ends_inside, every_walk}

-- a well-formed record goes on
goes_formed : (r : Record) (rest : List Record) → is_formed r ≡ true → every is_formed (goes_on r rest) ≡ every is_formed rest
unfolding every
goes_formed (call c) rest h = refl
goes_formed malformed rest h = absurd (yes_no h refl)
goes_formed cut rest h = absurd (yes_no h refl)
goes_formed over rest h = absurd (yes_no h refl)

-- ---- a well-formed record, copied before other bytes, is the first of their records

module _ (s : List ℕ) (i : ℕ) (f : Formed s i) (t : List ℕ) where
  copy : List ℕ
  copy = take (4 + f.n) (drop i s)

  copy_long : length copy ≡ 4 + f.n
  unfolding copy
  copy_long = let d = length-drop i s in let l = at_end s i f in length-take-le (4 + f.n) (drop i s) (omega (arith, d, l))

  copy_head : length_at (copy ++ t) 0 ≡ length_at s i
  unfolding copy length_at
  copy_head = ap length_of (take-append-le 4 copy t (omega (arith, copy_long)) ∙ take-take 4 (4 + f.n) (drop i s) (omega arith))

  copy_body : take f.n (drop 4 (copy ++ t)) ≡ take f.n (drop (i + 4) s)
  unfolding copy
  copy_body =
      let a = take-add 4 f.n (drop i s) in
      let d = drop-drop 4 i s in
      let c = length-drop i s in
      let l = at_end s i f in
      let four : length (take 4 (drop i s)) ≡ 4 = length-take-le 4 (drop i s) (omega (arith, c, l)) in
      let body = take f.n (drop (i + 4) s) in
      let e : copy ≡ take 4 (drop i s) ++ body = a ∙ ap (λ x. take 4 (drop i s) ++ take f.n x) d in
      let n : length body ≡ f.n = length-take-le f.n (drop (i + 4) s) f.there in
      let g : drop 4 (copy ++ t) ≡ body ++ t = drop-append-le 4 copy t (omega (arith, copy_long)) ∙ ap (◌++ t) (ap (drop 4) e ∙ drop_at (take 4 (drop i s)) body 4 four) in
      ap (take f.n) g ∙ take_at body t f.n n

  copy_counts : counts f.n ≡ length_at (copy ++ t) 0
  copy_counts = f.counted ∙ sym copy_head

  copy_record : Stands (copy ++ t) 0
  copy_record =
      let d = length-drop (0 + 4) (copy ++ t) in
      let a = length-append copy t in
      let l = copy_long in
      let z : 0 + 4 ≡ 4 = omega arith in
      ap is_formed (record_there (copy ++ t) 0 copy_counts (omega (arith, d, a, l)) ∙ ap body_of (ap (λ k. take f.n (drop k (copy ++ t))) z ∙ copy_body)) ∙ f.body

  copy_rest : records_from (copy ++ t) (behind 0 (length_at (copy ++ t) 0)) ≡ records_from t 0
  copy_rest =
      let e : behind 0 (length_at (copy ++ t) 0) ≡ 4 + f.n = ap (behind 0) (sym copy_counts) ∙ omega arith in
      ap (records_from (copy ++ t)) e ∙ (records_behind (copy ++ t) (4 + f.n) ∙ ap (λ x. records_from x 0) (drop_at copy t (4 + f.n) copy_long))

  copy_first : every is_formed (records_from (copy ++ t) 0) ≡ every is_formed (records_from t 0)
  copy_first = ap (every is_formed) (records_step (copy ++ t) 0) ∙ (goes_formed (record_at (copy ++ t) 0) _ copy_record ∙ ap (every is_formed) copy_rest)

copied : (s : List ℕ) (i : ℕ) (f : Formed s i) (t : List ℕ) → every is_formed (records_from (take (4 + f.n) (drop i s) ++ t) 0) ≡ every is_formed (records_from t 0)
unfolding copy
copied s i f t = copy_first s i f t

-- ---- what is kept

none_formed : every is_formed (records_from [] 0) ≡ true
unfolding every
none_formed = ap (every is_formed) (over_rests [] 0 (omega arith))

kept_formed : (s : List ℕ) (i : ℕ) (r : Run) → AllFormed (walk s (length s) i r).kept
kept_formed s =
    every_walk s (length s) (le_refl (length s)) (λ i r w. AllFormed w.kept) (λ i r h. none_formed)
    (λ i r w b f t.
    let g = formed_at s i f in
    let e : behind i (length_at s i) - i ≡ 4 + g.n = let d = next_due s i g in omega (arith, d) in
    ap (λ n. every is_formed (records_from (take n (drop i s) ++ w.kept) 0)) e ∙ (copied s i g w.kept ∙ t))
    (λ i r w b f t. t)

pub all_formed : (place : ℕ) (s : List ℕ) → AllFormed (rescue_from place s).kept
unfolding rescue_from
all_formed place s = kept_formed s 0 (run place 0)

-- ---- a file whose records are all well formed

-- no body is the end of the bytes
is_over : Record → Bool
is_over (call c) = false
is_over malformed = false
is_over cut = false
is_over over = true

is_missing : Length → Bool
is_missing (counts n) = false
is_missing broken = false
is_missing missing = true

missing_of : (b : List ℕ) → missing ≡ length_of b → length b ≡ 0
unfolding length_of is_missing
missing_of b e =
    ⊎_elim (λ z. z)
    (λ z.
    let g : is_missing (length_of b) ≡ true = ap is_missing (sym e) in
    absurd (yes_no g (rw (ne_eqb (length b) 0 z) (rest (ltb (length b) 4) (leb (be 4 b 0) most_bytes)))))
    (same? (length b) 0)
  where
    rest : (x y : Bool) → is_missing (cond x broken (cond y (counts (be 4 b 0)) broken)) ≡ false
    rest true y = refl
    rest false true = refl
    rest false false = refl

missing_end : (s : List ℕ) (i : ℕ) → missing ≡ length_at s i → length s ≤ i
unfolding length_at
missing_end s i e = let d = length-drop i s in let t = length-take 4 (drop i s) in let z = missing_of (take 4 (drop i s)) e in omega (arith, d, t, z)

between_rest : (s : List ℕ) (i j : ℕ) → i ≤ j → between s i j ++ drop j s ≡ drop i s
between_rest s i j h =
    let e : i + (j - i) ≡ j = omega (arith, h) in
    ap (between s i j ++◌) (sym (drop-drop (j - i) i s ∙ ap (λ n. drop n s) e)) ∙ take-append-drop (j - i) (drop i s)

not_over : (b : Bool) (x y : Record) → is_over x ≡ false → is_over y ≡ false → is_over (cond b x y) ≡ false
not_over true x y p q = p
not_over false x y p q = q

formed_not_over : (b : Bool) (c : Call) → is_over (formed b c) ≡ false
unfolding is_over
formed_not_over b c = not_over b (call c) malformed refl refl

broken_not_over : is_over malformed ≡ false
unfolding is_over
broken_not_over = refl

module _ (b : List ℕ) where
  plain_not_over : is_over (plain_of b) ≡ false
  unfolding plain_of
  plain_not_over = formed_not_over (is_bit b 14 && keys_fill b 15) _

  network_not_over : is_over (network_of b) ≡ false
  unfolding network_of
  network_not_over = formed_not_over (keys_fill b 14) _

  control_not_over : is_over (control_of b) ≡ false
  unfolding control_of
  control_not_over = formed_not_over (eqb (length b) 14) _

  action_not_over : is_over (action_of b) ≡ false
  unfolding action_of
  action_not_over = formed_not_over (is_bit b 16 && keys_fill b 17) _

  transition_not_over : is_over (transition_of b) ≡ false
  unfolding transition_of
  transition_not_over = formed_not_over (is_bit b 6 && eqb (length b) 19) _

  pop_not_over : is_over (pop_of b) ≡ false
  unfolding pop_of
  pop_not_over = formed_not_over (eqb (length b) 2) _

  op_not_over : (op : ℕ) → is_over (op_of op b) ≡ false
  unfolding op_of
  op_not_over op =
      let r₆ = cond (eqb op 6) (pop_of b) malformed in
      let r₅ = cond (eqb op 5) (transition_of b) r₆ in
      let r₄ = cond (eqb op 4) (action_of b) r₅ in
      let r₃ = cond (eqb op 3) (control_of b) r₄ in
      let r₂ = cond (eqb op 2) (network_of b) r₃ in
      not_over (eqb op 1) (plain_of b) r₂ plain_not_over
      (not_over (eqb op 2) (network_of b) r₃ network_not_over
      (not_over (eqb op 3) (control_of b) r₄ control_not_over
      (not_over (eqb op 4) (action_of b) r₅ action_not_over
      (not_over (eqb op 5) (transition_of b) r₆ transition_not_over (not_over (eqb op 6) (pop_of b) malformed pop_not_over broken_not_over)))))

  body_not_over : is_over (body_of b) ≡ false
  unfolding body_of
  body_not_over = not_over (eqb (be 1 b 0) version) (op_of (be 1 b 1) b) malformed (op_not_over (be 1 b 1)) broken_not_over

-- before the end of the bytes a record is due
over_end : (s : List ℕ) (i : ℕ) → is_over (record_at s i) ≡ true → length s ≤ i
unfolding record_at is_over
over_end s i h = go (length_at s i) refl h
  where
    go : (w : Length) → w ≡ length_at s i → is_over (record_of w (drop (i + 4) s)) ≡ true → length s ≤ i
    go (counts n) e g = absurd (yes_no g (not_over (leb n (length (drop (i + 4) s))) (body_of (take n (drop (i + 4) s))) cut (body_not_over (take n (drop (i + 4) s))) refl))
    go broken e g = absurd (yes_no g refl)
    go missing e g = missing_end s i e

-- the first of records that are all well formed
first_formed : (r : Record) (rest : List Record) → every is_formed (goes_on r rest) ≡ true → is_over r ≡ false → is_formed r ≡ true
unfolding every is_over
first_formed (call c) rest h o = refl
first_formed malformed rest h o = h
first_formed cut rest h o = h
first_formed over rest h o = absurd (yes_no refl o)

first_stands : (s : List ℕ) (i : ℕ) → i < length s → every is_formed (records_from s i) ≡ true → Stands s i
first_stands s i b a =
    first_formed (record_at s i) (records_from s (behind i (length_at s i))) (sym (ap (every is_formed) (records_step s i)) ∙ a)
    (⊎_elim (λ o. absurd (let k = over_end s i o in omega (arith, k, b))) (λ o. o) (which (is_over (record_at s i))))

-- all of it is kept, and no run is pending
record Whole (s : List ℕ) (i : ℕ) (w : Walk) : Type 0 where
  kept : w.kept ≡ drop i s
  dropped : w.dropped ≡ []
  pending : w.pending.length ≡ 0

whole_stop : (s : List ℕ) (i : ℕ) (r : Run) → i ≡ length s → r.length ≡ 0 → Whole s i (stopped i r)
whole_stop s i r e z = record { kept = sym (ap (λ n. drop n s) e ∙ drop-length s); dropped = refl; pending = z }

whole : (s : List ℕ) (i : ℕ) (r : Run) → i ≤ length s → r.length ≡ 0 → every is_formed (records_from s i) ≡ true → Whole s i (walk s (length s) i r)
whole s =
    every_walk s (length s) (le_refl (length s)) (λ i r w. i ≤ length s → r.length ≡ 0 → every is_formed (records_from s i) ≡ true → Whole s i w)
    (λ i r h g z a. whole_stop s i r (omega (arith, h, g)) z)
    (λ i r w b f t g z a.
    let j = behind i (length_at s i) in
    let k = ends_behind s i f in
    let u : i ≤ j = omega (arith, k) in
    let v = t (ends_inside s i f) refl (sym (goes_formed (record_at s i) (records_from s j) f) ∙ (sym (ap (every is_formed) (records_step s i)) ∙ a)) in
    record { kept = ap (between s i j ++◌) v.kept ∙ between_rest s i j u; dropped = rw (eq-eqb r.length 0 z) v.dropped; pending = v.pending })
    (λ i r w b f t g z a. absurd (yes_no (first_stands s i b a) f))

pub record Unchanged (s : List ℕ) (w : Walk) : Type 0 where
  pub kept : w.kept ≡ s
  pub dropped : w.dropped ≡ []

pub unchanged : (place : ℕ) (s : List ℕ) → AllFormed s → Unchanged s (rescue_from place s)
unfolding rescue_from
unchanged place s a =
    let t = whole s 0 (run place 0) (omega arith) refl a in
    record { kept = t.kept; dropped = rw (t.dropped, eq-eqb _ 0 t.pending) }

-- rescuing what was rescued changes nothing
pub again : (place other : ℕ) (s : List ℕ) → Unchanged (rescue_from place s).kept (rescue_from other (rescue_from place s).kept)
again place other s = unchanged other (rescue_from place s).kept (all_formed place s)
