-- Laws of the records, in the form that the code meets them. Assumes nothing.
use mathlib.Core.Path.{◌≡◌, refl, sym, ap, ◌∙◌}
use mathlib.Core.Logic.{⊎_elim}
use mathlib.Core.Bool.{Bool, true, false, cond, ◌&&◌}
use mathlib.Core.List.{List, [], ◌∷◌, ◌++◌}
use Prim.Native.Nat.{ℕ, zero, suc, ◌+◌, ◌*◌, ◌≤◌, ◌<◌}
use native.Mathlib.Omega.{arith}
use native.Mathlib.Numerals.{add-one}
use lib.Dec.{ltb, leb, eqb, leb-suc-suc}
use lib.ListN.{length, get_or, drop, set, length-append, length-drop, get_or-eq_default}
use lib.Seq.{take_at, drop_at}
use borrow.Author.Tests.{lt-ltb, le-ltb, le-leb, lt-leb, eq-eqb, ne_eqb, leb-true, eqb-true}
use Rattle.lists.specs.Tests.{and_left, and_right, and_no, yes_no, same?, below?, lt_eqb, gt_eqb}
use Rattle.lists.specs.Lists.{over, over_write}
use Rattle.lists.specs.Rows.{tab, tab_length}
use Rattle.table_rows.specs.Bytes.{be}
use Rattle.tags.specs.Tags.{at}
use Rattle.tags.specs.Views.{of_global}
use Rattle.tags.specs.declared.GlobalTag.{GlobalTag}
use Rattle.machine.specs.Machine as M
use Rattle.day_records.specs.Records.{Record, malformed, version, most_keys, most_bytes, tag_at, is_bit, is_one, is_zero, key_at, keys_at, keys_fill, plain_of}
use Rattle.day_records.specs.Records.{network_of, control_of, action_of, transition_of, pop_of, op_of, body_of, formed, is_formed, counts, broken, missing, length_of}
use Rattle.day_records.specs.Views.{number_of, HasOp, form, form_of, Parses, Filled}
use Rattle.day_records.specs.declared.Form.{Form}
use Rattle.day_records.specs.declared.Malformed.{Malformed}
use Rattle.day_records.specs.declared.Op.{Op}
use Rattle.day_records.specs.declared.Op.TheVariants as O
use Rattle.std.specs.Prelude.{Result, Ok, Err, is_ok, MatchResult}
use Rattle.day_records.specs.declared.Parsed.TheVariants.{Plain, Network, Control, Action, Transition, Pop}

-- ---- numbers whose bytes are all there

pub one_is : (b : List ℕ) (i : ℕ) → be 1 b i ≡ get_or b i 0
unfolding be
one_is b i = let e : i + 0 ≡ i = omega arith in rw e (omega arith)

-- the code's numbers, of bytes that are there
module _ (b : List ℕ) (i : ℕ) where
  pub two_are : be 2 b i ≡ get_or b i 0 * 256 + get_or b (i + 1) 0
  unfolding be
  two_are = let z : i + 0 ≡ i = omega arith in rw z (omega arith)

  pub four_are : be 4 b i ≡ ((get_or b i 0 * 256 + get_or b (i + 1) 0) * 256 + get_or b (i + 2) 0) * 256 + get_or b (i + 3) 0
  unfolding be
  four_are = let z : i + 0 ≡ i = omega arith in rw z (omega arith)

  pub eight_are : be 8 b i ≡ (((((((get_or b i 0 * 256 + get_or b (i + 1) 0) * 256 + get_or b (i + 2) 0) * 256 + get_or b (i + 3) 0) * 256 + get_or b (i + 4) 0) * 256 + get_or b (i + 5) 0) * 256 + get_or b (i + 6) 0) * 256 + get_or b (i + 7) 0)
  unfolding be
  eight_are = let z : i + 0 ≡ i = omega arith in rw z (omega arith)

-- ---- the operands

module _ (b : List ℕ) (i : ℕ) where
  pub tag_there : {o m : ℕ} → o ≡ be 8 b i → m ≡ be 4 b (i + 8) → at o m ≡ tag_at b i
  unfolding tag_at
  tag_there p q = rw (p, q)

  pub bit_there : {n : ℕ} → n ≡ be 1 b i → ltb n 2 ≡ is_bit b i
  unfolding is_bit
  bit_there p = rw p

  pub one_there : {n : ℕ} → n ≡ be 1 b i → eqb n 1 ≡ is_one b i
  unfolding is_one
  one_there p = rw p

  pub zero_there : {n : ℕ} → n ≡ be 1 b i → eqb n 0 ≡ is_zero b i
  unfolding is_zero
  zero_there p = rw p

  pub fill_few : {n : ℕ} → n ≡ be 2 b i → keys_fill b i ≡ true → n ≤ most_keys
  unfolding keys_fill
  fill_few p h = rw p (leb-true _ _ (and_left (leb (be 2 b i) most_keys) _ h))

  pub fill_long : keys_fill b i ≡ true → length b ≡ i + 2 + 2 * be 2 b i
  unfolding keys_fill
  fill_long h = eqb-true _ _ (and_right (leb (be 2 b i) most_keys) _ h)

-- the code's bytes
pub one_byte : (b : List ℕ) (i : ℕ) → eqb (get_or b i 0) 1 ≡ is_one b i
unfolding is_one
one_byte b i = rw one_is

pub zero_byte : (b : List ℕ) (i : ℕ) → eqb (get_or b i 0) 0 ≡ is_zero b i
unfolding is_zero
zero_byte b i = rw one_is

pub ruleset operands = (tag_there, bit_there, one_there)

-- ---- the keys, one more a turn

tab_snoc : (f : ℕ → ℕ) (n i : ℕ) → tab f i (suc n) ≡ tab f i n ++ (f (i + n) ∷ [])
unfolding tab
tab_snoc f zero i = let e : i + 0 ≡ i = omega arith in rw e
tab_snoc f (suc n) i = let e : i + suc n ≡ suc i + n = omega arith in rw e (ap (f i ∷◌) (tab_snoc f n (suc i)))

module _ (f : ℕ → ℕ) (l : List ℕ) where
  pub keys_none : l ≡ over (tab f 0 0) l
  unfolding tab
  keys_none = refl

  pub keys_more : (k : ℕ) {out : List ℕ} {a : ℕ} → k < length l → out ≡ over (tab f 0 k) l → a ≡ f k → set out k a ≡ over (tab f 0 (k + 1)) l
  keys_more k {out} {a} h e g =
      let n : length (tab f 0 k) ≡ k = tab_length f 0 k in
      let z : 0 + k ≡ k = omega arith in
      rw (e, g, add-one, tab_snoc f k 0, z) (ap (λ m. set (over (tab f 0 k) l) m (f k)) (sym n) ∙ over_write (tab f 0 k) l (f k) (rw n h))

module _ (b : List ℕ) (i n k : ℕ) (before after : List ℕ) (p : n ≡ be 2 b i) (few : n ≤ most_keys) (low : k ≤ n) (high : n ≤ k) where
  pub keys_all : n ≤ length before → after ≡ over (tab (key_at b i) 0 k) before → Filled b i n before after
  unfolding keys_at
  keys_all room e =
      let s : k ≡ n = omega arith in
      let l : length (tab (key_at b i) 0 n) ≡ n = tab_length (key_at b i) 0 n in
      let g : after ≡ tab (key_at b i) 0 n ++ drop n before = e ∙ rw s (rw l) in
      record {
        keys = rw (g, ← p) (take_at (tab (key_at b i) 0 n) (drop n before) n l);
        rest = rw g (drop_at (tab (key_at b i) 0 n) (drop n before) n l);
        few = few;
        long = rw (g, length-append, l, length-drop n before) (omega arith);
      }

-- ---- well formed, by the places of an op's operands

is_formed_lem : (t : Bool) (c : M.Call) → is_formed (formed t c) ≡ t
is_formed_lem true c = refl
is_formed_lem false c = refl

abbrev formed_by : Form → List ℕ → Bool
formed_by f b = leb (be 1 b f.bit) 1 && (leb (f.each * be 2 b f.count) 256 && eqb (length b) (f.fixed + f.each * be 2 b f.count))

half_many : (n : ℕ) → leb n most_keys ≡ leb (2 * n) 256
half_many n = ⊎_elim (λ h. lt-leb n most_keys h ∙ sym (lt-leb (2 * n) 256 (omega arith))) (λ h. le-leb n most_keys h ∙ sym (le-leb (2 * n) 256 (omega arith))) (below? most_keys n)

under_two : (n : ℕ) → ltb n 2 ≡ leb n 1
under_two n = leb-suc-suc n 1

none_more : (n m : ℕ) → n ≡ n + 0 * m
none_more n m = omega arith

none_many : (m : ℕ) → leb (0 * m) 256 ≡ true
none_many m = le-leb (0 * m) 256 (omega arith)

module _ (b : List ℕ) where
  keys_by : (i : ℕ) → keys_fill b i ≡ (leb (2 * be 2 b i) 256 && eqb (length b) (i + 2 + 2 * be 2 b i))
  unfolding keys_fill
  keys_by i = rw (half_many (be 2 b i))

  form_1 : is_formed (plain_of b) ≡ formed_by (form 14 15 2 17) b
  unfolding plain_of is_bit
  form_1 = rw (is_formed_lem (is_bit b 14 && keys_fill b 15) _, under_two (be 1 b 14), keys_by 15)

  form_2 : be 1 b 0 ≡ version → is_formed (network_of b) ≡ formed_by (form 0 14 2 16) b
  unfolding network_of
  form_2 v = rw (is_formed_lem (keys_fill b 14) _, v, keys_by 14)

  form_3 : be 1 b 0 ≡ version → is_formed (control_of b) ≡ formed_by (form 0 0 0 14) b
  unfolding control_of
  form_3 v = rw (is_formed_lem (eqb (length b) 14) _, v, none_many (be 2 b 0), ← none_more 14 (be 2 b 0))

  form_4 : is_formed (action_of b) ≡ formed_by (form 16 17 2 19) b
  unfolding action_of is_bit
  form_4 = rw (is_formed_lem (is_bit b 16 && keys_fill b 17) _, under_two (be 1 b 16), keys_by 17)

  form_5 : is_formed (transition_of b) ≡ formed_by (form 6 0 0 19) b
  unfolding transition_of is_bit
  form_5 = rw (is_formed_lem (is_bit b 6 && eqb (length b) 19) _, under_two (be 1 b 6), none_many (be 2 b 0), ← none_more 19 (be 2 b 0))

  form_6 : be 1 b 0 ≡ version → is_formed (pop_of b) ≡ formed_by (form 0 0 0 2) b
  unfolding pop_of
  form_6 v = rw (is_formed_lem (eqb (length b) 2) _, v, none_many (be 2 b 0), ← none_more 2 (be 2 b 0))

  -- the version is the byte that is 0 or 1 where no other is
  op_form : be 1 b 0 ≡ version → (op : Op) → is_formed (op_of (number_of op) b) ≡ formed_by (form_of op) b
  unfolding op_of
  op_form v O.Plain = form_1
  op_form v O.Network = form_2 v
  op_form v O.Control = form_3 v
  op_form v O.Action = form_4
  op_form v O.Transition = form_5
  op_form v O.Pop = form_6 v

-- a form's numbers are small
pub record Small (f : Form) : Type 0 where
  pub bit : f.bit < f.fixed
  pub count : f.count + 2 ≤ f.fixed
  pub each : f.each ≤ 2
  pub fixed : f.fixed ≤ 19

pub form_small : (op : Op) → Small (form_of op)
form_small O.Plain = record { bit = omega arith; count = omega arith; each = omega arith; fixed = omega arith }
form_small O.Network = record { bit = omega arith; count = omega arith; each = omega arith; fixed = omega arith }
form_small O.Control = record { bit = omega arith; count = omega arith; each = omega arith; fixed = omega arith }
form_small O.Action = record { bit = omega arith; count = omega arith; each = omega arith; fixed = omega arith }
form_small O.Transition = record { bit = omega arith; count = omega arith; each = omega arith; fixed = omega arith }
form_small O.Pop = record { bit = omega arith; count = omega arith; each = omega arith; fixed = omega arith }

-- the code's tests, one after the other
module _ (b : List ℕ) (op : Op) {f : Form} (v : get_or b 0 0 ≡ version) (n : get_or b 1 0 ≡ number_of op) (e : f ≡ form_of op) where
  by_op : is_formed (body_of b) ≡ is_formed (op_of (number_of op) b)
  unfolding body_of
  by_op = rw (one_is b 0 ∙ v, one_is b 1 ∙ n)

  by_form : is_formed (op_of (number_of op) b) ≡ formed_by f b
  by_form = rw e (op_form b (one_is b 0 ∙ v) op)

  pub form_short : length b < f.fixed → is_formed (body_of b) ≡ false
  form_short h = by_op ∙ (by_form ∙ rw (lt_eqb (length b) (f.fixed + f.each * be 2 b f.count) (omega arith), and_no, and_no))

  pub form_bit : 1 < get_or b f.bit 0 → is_formed (body_of b) ≡ false
  form_bit h = by_op ∙ (by_form ∙ rw (one_is b f.bit, lt-leb _ _ h))

  pub form_many : {k : ℕ} → k ≡ be 2 b f.count → 256 < f.each * k → is_formed (body_of b) ≡ false
  form_many p h = by_op ∙ (by_form ∙ rw (← p, lt-leb _ _ h, and_no (leb (be 1 b f.bit) 1)))

  pub form_long : {k : ℕ} → k ≡ be 2 b f.count → (length b ≡ f.fixed + f.each * k → ⊥) → is_formed (body_of b) ≡ false
  form_long p h = by_op ∙ (by_form ∙ rw (← p, ne_eqb _ _ h, and_no, and_no))

  pub form_fills : {k : ℕ} → get_or b f.bit 0 ≤ 1 → k ≡ be 2 b f.count → f.each * k ≤ 256 → length b ≡ f.fixed + f.each * k → HasOp b op
  form_fills g p h l =
      record { versioned = one_is b 0 ∙ v; named = one_is b 1 ∙ n; formed = by_form ∙ rw (one_is b f.bit, ← p, le-leb _ _ g, le-leb _ _ h, eq-eqb _ _ l) }

pub no_op_formed : (b : List ℕ) {op : ℕ} → op ≡ 0 → false ≡ is_formed (op_of op b)
unfolding op_of
no_op_formed b e = rw e

pub no_op_over : (b : List ℕ) {op : ℕ} → 6 < op → false ≡ is_formed (op_of op b)
unfolding op_of
no_op_over b {op} h = rw (gt_eqb op 1 (omega arith), gt_eqb op 2 (omega arith), gt_eqb op 3 (omega arith), gt_eqb op 4 (omega arith), gt_eqb op 5 (omega arith), gt_eqb op 6 h)

-- too short for an op
pub body_short : (b : List ℕ) → length b < 2 → malformed ≡ body_of b
unfolding body_of op_of
body_short b h = go (eqb (be 1 b 0) version) (one_is b 1 ∙ get_or-eq_default b 0 {n = 1} (omega arith))
  where
    go : (t : Bool) → be 1 b 1 ≡ 0 → malformed ≡ cond t (op_of (be 1 b 1) b) malformed
    go true e = rw e
    go false e = refl

pub short_not : (b : List ℕ) → length b < 2 → is_formed (body_of b) ≡ false
short_not b h = ap is_formed (sym (body_short b h))

pub body_not : (b : List ℕ) → (get_or b 0 0 ≡ version → ⊥) → is_formed (body_of b) ≡ false
unfolding body_of
body_not b v = rw (one_is b 0, ne_eqb _ _ v)

-- its second byte names no op
pub no_op : (b : List ℕ) → get_or b 0 0 ≡ version → (0 < get_or b 1 0 → 6 < get_or b 1 0) → is_formed (body_of b) ≡ false
unfolding body_of
no_op b v h =
    rw (one_is b 0 ∙ v, one_is b 1) (⊎_elim (λ l. sym (no_op_over b (h l))) (λ g. let e : get_or b 1 0 ≡ 0 = omega arith in sym (no_op_formed b e)) (below? 0 (get_or b 1 0)))

-- a well-formed record has the version and an op
pub formed_version : (b : List ℕ) → is_formed (body_of b) ≡ true → be 1 b 0 ≡ version
unfolding body_of
formed_version b h = ⊎_elim (λ e. e) (λ n. absurd (yes_no h (rw (ne_eqb (be 1 b 0) version n)))) (same? (be 1 b 0) version)

module _ (b : List ℕ) (h : is_formed (body_of b) ≡ true) where
  formed_by_op : is_formed (op_of (be 1 b 1) b) ≡ true
  unfolding body_of
  formed_by_op = rw (formed_version b h) at h

  pub formed_op_some : 0 < be 1 b 1
  formed_op_some = ⊎_elim (λ l. l) (λ g. let e : be 1 b 1 ≡ 0 = omega arith in absurd (yes_no formed_by_op (sym (no_op_formed b e)))) (below? 0 (be 1 b 1))

  pub formed_op_few : be 1 b 1 ≤ 6
  formed_op_few = ⊎_elim (λ g. absurd (yes_no formed_by_op (sym (no_op_over b g)))) (λ l. l) (below? 6 (be 1 b 1))

-- ---- the ops: well formed, or not

-- what is not well formed is malformed
formed_bad : (t : Bool) (c : M.Call) → is_formed (formed t c) ≡ false → malformed ≡ formed t c
formed_bad t c h = rw (sym (is_formed_lem t c) ∙ h)

chosen_bad : (t : Bool) {x y : Record} → (is_formed x ≡ false → malformed ≡ x) → (is_formed y ≡ false → malformed ≡ y)
    → is_formed (cond t x y) ≡ false → malformed ≡ cond t x y
chosen_bad true f g = f
chosen_bad false f g = g

body_bad : (b : List ℕ) → is_formed (body_of b) ≡ false → malformed ≡ body_of b
unfolding body_of op_of plain_of network_of control_of action_of transition_of pop_of
body_bad b =
    let op = be 1 b 1 in
    chosen_bad (eqb (be 1 b 0) version)
    (chosen_bad (eqb op 1) (formed_bad (is_bit b 14 && keys_fill b 15) _)
    (chosen_bad (eqb op 2) (formed_bad (keys_fill b 14) _)
    (chosen_bad (eqb op 3) (formed_bad (eqb (length b) 14) _)
    (chosen_bad (eqb op 4) (formed_bad (is_bit b 16 && keys_fill b 17) _)
    (chosen_bad (eqb op 5) (formed_bad (is_bit b 6 && eqb (length b) 19) _)
    (chosen_bad (eqb op 6) (formed_bad (eqb (length b) 2) _) (λ h. refl))))))) (λ h. refl)

pub parses_not : (b : List ℕ) {keys : List ℕ} {e : Malformed} → is_formed (body_of b) ≡ false → Parses (Err e) keys keys (body_of b)
parses_not b h = record { is = body_bad b h; rest = refl; few = omega arith; long = refl }

module _ (b : List ℕ) {op : Op} (h : HasOp b op) where
  pub is_op : body_of b ≡ op_of (number_of op) b
  unfolding body_of
  is_op = rw (h.versioned, h.named)

  pub formed_yes : true ≡ is_formed (body_of b)
  formed_yes = sym (ap is_formed is_op ∙ h.formed)

  -- how long it is
  pub op_long : (form_of op).fixed ≤ length b
  op_long =
      let v = sym (one_is b 0) ∙ h.versioned in
      let n = sym (one_is b 1) ∙ h.named in
      ⊎_elim (λ l. absurd (yes_no (sym formed_yes) (form_short b op v n refl l))) (λ l. l) (below? (length b) (form_of op).fixed)

-- an op or none
pub answers_formed : (b : List ℕ) (r : Result Op Malformed) {a : Bool} → MatchResult r (λ op. HasOp b op) (λ e. is_formed (body_of b) ≡ false) → a ≡ is_ok r → a ≡ is_formed (body_of b)
answers_formed b (Ok op) h e = e ∙ formed_yes b h
answers_formed b (Err x) h e = e ∙ sym h

-- how long each is, and what fills its end
module _ (b : List ℕ) {op : Op} (h : HasOp b op) where
  pub plain_long : op ≡ O.Plain → 17 ≤ length b
  plain_long e = rw e at (op_long b h)

  pub network_long : op ≡ O.Network → 16 ≤ length b
  network_long e = rw e at (op_long b h)

  pub control_long : op ≡ O.Control → 14 ≤ length b
  control_long e = rw e at (op_long b h)

  pub action_long : op ≡ O.Action → 19 ≤ length b
  action_long e = rw e at (op_long b h)

  pub transition_long : op ≡ O.Transition → 19 ≤ length b
  transition_long e = rw e at (op_long b h)

  pub plain_fill : op ≡ O.Plain → keys_fill b 15 ≡ true
  unfolding op_of plain_of
  plain_fill e = and_right (is_bit b 14) _ (sym (is_formed_lem (is_bit b 14 && keys_fill b 15) _) ∙ rw e at h.formed)

  pub network_fill : op ≡ O.Network → keys_fill b 14 ≡ true
  unfolding op_of network_of
  network_fill e = sym (is_formed_lem (keys_fill b 14) _) ∙ rw e at h.formed

  pub action_fill : op ≡ O.Action → keys_fill b 17 ≡ true
  unfolding op_of action_of
  action_fill e = and_right (is_bit b 16) _ (sym (is_formed_lem (is_bit b 16 && keys_fill b 17) _) ∙ rw e at h.formed)

-- each record
module _ (b : List ℕ) {before after : List ℕ} {op : Op} {t : GlobalTag} {n : ℕ} where
  pub plain_yes : {e : Bool} → HasOp b op → op ≡ O.Plain → Filled b 15 n before after → of_global t ≡ tag_at b 2 → e ≡ is_one b 14
      → Parses (Ok (Plain t e n)) before after (body_of b)
  unfolding op_of plain_of
  plain_yes q r f g h =
      record { is = rw (is_op b q, r, sym (is_formed_lem (is_bit b 14 && keys_fill b 15) _) ∙ rw r at q.formed, ← g, ← h, f.keys); rest = f.rest; few = f.few; long = f.long }

  pub network_yes : HasOp b op → op ≡ O.Network → Filled b 14 n before after → of_global t ≡ tag_at b 2 → Parses (Ok (Network t n)) before after (body_of b)
  unfolding op_of network_of
  network_yes q r f g =
      record { is = rw (is_op b q, r, sym (is_formed_lem (keys_fill b 14) _) ∙ rw r at q.formed, ← g, f.keys); rest = f.rest; few = f.few; long = f.long }

  pub action_yes : {a : ℕ} {e : Bool} → HasOp b op → op ≡ O.Action → Filled b 17 n before after → a ≡ be 2 b 2 → of_global t ≡ tag_at b 4
      → e ≡ is_one b 16 → Parses (Ok (Action a t e n)) before after (body_of b)
  unfolding op_of action_of
  action_yes q r f d g h =
      record { is = rw (is_op b q, r, sym (is_formed_lem (is_bit b 16 && keys_fill b 17) _) ∙ rw r at q.formed, ← g, ← h, ← d, f.keys); rest = f.rest; few = f.few; long = f.long }

module _ (b : List ℕ) {keys : List ℕ} {op : Op} {t : GlobalTag} where
  pub control_yes : HasOp b op → op ≡ O.Control → of_global t ≡ tag_at b 2 → Parses (Ok (Control t)) keys keys (body_of b)
  unfolding op_of control_of
  control_yes q r g = record { is = rw (is_op b q, r, sym (is_formed_lem (eqb (length b) 14) _) ∙ rw r at q.formed, ← g); rest = refl; few = omega arith; long = refl }

  pub transition_yes : {r m : ℕ} {e : Bool} → HasOp b op → op ≡ O.Transition → r ≡ be 2 b 2 → m ≡ be 2 b 4 → e ≡ is_zero b 6 → of_global t ≡ tag_at b 7
      → Parses (Ok (Transition r m e t)) keys keys (body_of b)
  unfolding op_of transition_of
  transition_yes q p x y z g =
      record { is = rw (is_op b q, p, sym (is_formed_lem (is_bit b 6 && eqb (length b) 19) _) ∙ rw p at q.formed, ← g, ← x, ← y, ← z); rest = refl; few = omega arith; long = refl }

pub pop_yes : (b : List ℕ) {keys : List ℕ} {op : Op} → HasOp b op → op ≡ O.Pop → Parses (Ok Pop) keys keys (body_of b)
unfolding op_of pop_of
pop_yes b q r = record { is = rw (is_op b q, r, sym (is_formed_lem (eqb (length b) 2) _) ∙ rw r at q.formed); rest = refl; few = omega arith; long = refl }

pub ruleset parts = (plain_long, network_long, control_long, action_long, transition_long, plain_fill, network_fill, action_fill, pop_yes)

-- ---- the length

module _ (b : List ℕ) where
  pub length_missing : length b ≡ 0 → missing ≡ length_of b
  unfolding length_of
  length_missing h = rw (eq-eqb _ _ h)

  pub length_short : (length b ≡ 0 → ⊥) → length b < 4 → broken ≡ length_of b
  unfolding length_of
  length_short h l = rw (ne_eqb _ _ h, lt-ltb _ _ l)

  pub length_counts : {n : ℕ} → (length b ≡ 0 → ⊥) → 4 ≤ length b → n ≡ be 4 b 0 → n ≤ most_bytes → counts n ≡ length_of b
  unfolding length_of
  length_counts h l e m = rw (ne_eqb _ _ h, le-ltb _ _ l, ← e, le-leb _ _ m)

  pub length_over : {n : ℕ} → (length b ≡ 0 → ⊥) → 4 ≤ length b → n ≡ be 4 b 0 → most_bytes < n → broken ≡ length_of b
  unfolding length_of
  length_over h l e m = rw (ne_eqb _ _ h, le-ltb _ _ l, ← e, lt-leb _ _ m)

pub ruleset lengths = (length_missing, length_short, length_counts, length_over)
