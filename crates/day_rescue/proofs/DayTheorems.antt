-- Document 02, C-23, of a whole day: what comes out is a day with the same image, whose run has no malformed record and no bad length. Assumes nothing.
use Prim.Native.Nat.{ℕ, ◌+◌, ◌≤◌, ◌<◌}
use mathlib.Core.Bool.{true}
use mathlib.Core.Path.{◌≡◌, refl, sym, ap, subst, ◌∙◌}
use mathlib.Core.Logic.{⊎_elim}
use mathlib.Core.List.{List, [], ◌∷◌, ◌++◌}
use native.Mathlib.Nat.{zero-add}
use native.Mathlib.Omega.{arith}
use lib.ListN.{length, get_or, take, drop, length-append, length-drop, get_or-append, take-append-drop}
use lib.Seq.{get_or-take, take_at, drop_at, length-take-le}
use Rattle.lists.specs.Each.{Each}
use Rattle.lists.specs.Lists.{every}
use Rattle.lists.specs.Tests.{below?, yes_no}
use Rattle.table_rows.specs.Bytes.{Image}
use Rattle.table_rows.specs.Kinds.{largest}
use Rattle.refusals.specs.Refusals.{number_of}
use Rattle.refusals.specs.declared.Refusal.{Refusal}
use Rattle.refusals.specs.declared.Refusal.TheVariants.{Key, ArgumentTag, MappedTag, Waiting, Held, TargetMode, StateRule}
use Rattle.table.specs.Check.{check, accepts}
use Rattle.std.specs.Prelude.{Ok, Err}
use Rattle.table.specs.declared.ImageRefusal.{ImageRefusal}
use Rattle.machine.specs.State.{State, fresh}
use Rattle.machine.specs.Machine as M
use Rattle.machine.specs.Machine.{Reply, step}
use Rattle.day_records.specs.Records.{Record, call, malformed, cut, over, is_formed, records_from}
use Rattle.day_records.proofs.FormedLaws.{four_are}
use Rattle.day_lines.specs.Text.{decimal, decimal_in}
use Rattle.day_lines.specs.Lines.{line_of, refused_line, ready_line, head_text}
use Rattle.day_run.specs.Days.{malformed_line, answers_of, day_answers, image_end, image_in, record_bytes, opened}
use Rattle.day_run.proofs.WholeLaws.{open_fits, open_large, open_checked}
use Rattle.day_rescue.specs.Rescue.{Walk, before, rescue_from, nothing, rescue_by, day_rescue}
use Rattle.day_rescue.specs.Parts.{without, Ordered, AllFormed}
use Rattle.day_rescue.proofs.KeptLaws.{EachOnce, each_once, ordered_less, without_later}
use Rattle.day_rescue.proofs.AgainLaws.{Unchanged, all_formed, unchanged}

-- ---- "An image that is refused rescues nothing."

pub none_rescued : (day : List ℕ) {why : ImageRefusal} → opened day ≡ Err why → day_rescue day ≡ nothing
unfolding day_rescue
none_rescued day e = ap (λ c. rescue_by c day) e

-- ---- a day whose image is accepted

module _ (day : List ℕ) (t : opened day ≡ Ok tt) where
  abbrev End : ℕ
  End = image_end day

  abbrev Rest : Walk
  Rest = rescue_from (image_end day) (record_bytes day)

  abbrev Out : List ℕ
  Out = (day_rescue day).kept

  day_is : day_rescue day ≡ before (image_in day) 0 [] Rest
  unfolding day_rescue
  day_is = ap (λ c. rescue_by c day) t

  out_is : Out ≡ image_in day ++ Rest.kept
  out_is = ap (λ w. w.kept) day_is

  image_long : length (image_in day) ≡ End
  image_long = length-take-le End day (open_fits day t)

  rest_long : End + length (record_bytes day) ≡ length day
  rest_long = let d = length-drop End day in let l = open_fits day t in omega (arith, d, l)

  -- "Kept and dropped runs together are the input in order, each byte once": the runs lie behind the image, and places count from the file's first byte
  pub day_once : EachOnce 0 day (day_rescue day) × Ordered (image_end day) (day_rescue day).dropped (length day)
  day_once =
      let e = each_once End (record_bytes day) in
      let D = Rest.dropped in
      let o : Ordered End D (length day) = subst (Ordered End D) rest_long e.order in
      let z : 0 + End ≡ End = zero-add End in
      let k : image_in day ++ without End D (drop End day) ≡ without 0 D day =
      subst (λ n. image_in day ++ without n D (drop End day) ≡ without 0 D day) z
      (without_later End 0 D day (length day) (open_fits day t) (subst (λ n. Ordered n D (length day)) (sym z) o)) in
      rw day_is (
        record {
          kept = ap (image_in day ++◌) e.kept ∙ k;
          order = subst (Ordered 0 D) (sym (zero-add (length day))) (ordered_less D End 0 (length day) (omega arith) o);
          sum = let a = length-append (image_in day) Rest.kept in let b = e.sum in let c = image_long in let d = rest_long in omega (arith, a, b, c, d);
        },
        o,
      )

  -- "A file whose records are all well formed comes out unchanged with an empty list."
  pub day_unchanged : AllFormed (record_bytes day) → Unchanged day (day_rescue day)
  day_unchanged a =
      let u = unchanged End (record_bytes day) a in
      rw day_is (record { kept = ap (image_in day ++◌) u.kept ∙ take-append-drop End day; dropped = u.dropped })

  -- the output has the same image, and behind it the kept records
  head_byte : (k : ℕ) → k < 4 → get_or Out k 0 ≡ get_or day k 0
  head_byte k h =
      ap (λ l. get_or l k 0) out_is ∙ (get_or-append (image_in day) Rest.kept 0 k (let l = image_long in omega (arith, h, l)) ∙ get_or-take End day k 0 (omega (arith, h)))

  same_end : image_end Out ≡ image_end day
  same_end =
      let a = four_are Out in
      let b = four_are day in
      let h₀ = head_byte 0 (omega arith) in
      let h₁ = head_byte 1 (omega arith) in
      let h₂ = head_byte 2 (omega arith) in
      let h₃ = head_byte 3 (omega arith) in
      omega (arith, a, b, h₀, h₁, h₂, h₃)

  front_is : take End Out ≡ image_in day
  front_is = ap (take End) out_is ∙ take_at (image_in day) Rest.kept End image_long

  pub same_image : image_in Out ≡ image_in day
  same_image = ap (λ n. take n Out) same_end ∙ front_is

  pub same_records : record_bytes Out ≡ (rescue_from (image_end day) (record_bytes day)).kept
  same_records = ap (λ n. drop n Out) same_end ∙ (ap (drop End) out_is ∙ drop_at (image_in day) Rest.kept End image_long)

  end_few : End ≤ largest
  end_few = ⊎_elim (λ h. absurd (yes_no (ap accepts t) (sym (ap accepts (open_large day End refl h))))) (λ h. h) (below? largest End)

  pub opened_again : opened Out ≡ Ok tt
  opened_again =
      let a = ap length out_is ∙ length-append (image_in day) Rest.kept in
      let l = image_long in
      let c : check (image_in day) ≡ Ok tt = open_checked day End refl (open_fits day t) end_few refl ∙ t in
      sym (open_checked Out End (sym same_end) (omega (arith, a, l)) end_few (sym (ap check front_is ∙ c)))

  pub out_formed : AllFormed (record_bytes Out)
  out_formed = rw same_records (all_formed (image_end day) (record_bytes day))

-- rescuing a rescued day changes nothing
pub day_again : (day : List ℕ) → opened day ≡ Ok tt → Unchanged (day_rescue day).kept (day_rescue (day_rescue day).kept)
day_again day t = day_unchanged (day_rescue day).kept (opened_again day t) (out_formed day t)

-- ---- the lines of its run: none is "refused 1"

abbrev pub Other : List ℕ → Type 0
Other l = l ≡ malformed_line → ⊥

-- lines that differ in a byte
byte_other : (l : List ℕ) (k a b : ℕ) → get_or l k 0 ≡ a → get_or malformed_line k 0 ≡ b → (a ≡ b → ⊥) → Other l
byte_other l k a b p q n e = n (sym p ∙ (ap (λ x. get_or x k 0) e ∙ q))

-- a call is refused with 5 to 11
refusal_other : (n : Refusal) → Other (refused_line (number_of n))
unfolding refused_line decimal decimal_in
refusal_other Key = byte_other _ 8 53 49 refl refl (λ e. omega (arith, e))
refusal_other ArgumentTag = byte_other _ 8 54 49 refl refl (λ e. omega (arith, e))
refusal_other MappedTag = byte_other _ 8 55 49 refl refl (λ e. omega (arith, e))
refusal_other Waiting = byte_other _ 8 56 49 refl refl (λ e. omega (arith, e))
refusal_other Held = byte_other _ 8 57 49 refl refl (λ e. omega (arith, e))
refusal_other TargetMode = byte_other _ 9 48 10 refl refl (λ e. omega (arith, e))
refusal_other StateRule = byte_other _ 9 49 10 refl refl (λ e. omega (arith, e))

reply_other : (img : Image) (r : Reply) → Other (line_of img r)
unfolding refused_line ready_line head_text
reply_other img M.ok = byte_other _ 0 111 114 refl refl (λ e. omega (arith, e))
reply_other img M.nothing = byte_other _ 0 110 114 refl refl (λ e. omega (arith, e))
reply_other img (M.refusal n) = refusal_other n
reply_other img (M.ready r) = byte_other _ 2 97 102 refl refl (λ e. omega (arith, e))
reply_other img (M.tag g) = byte_other [] 0 0 114 refl refl (λ e. omega (arith, e))
reply_other img (M.flag b) = byte_other [] 0 0 114 refl refl (λ e. omega (arith, e))
reply_other img (M.number n) = byte_other [] 0 0 114 refl refl (λ e. omega (arith, e))

-- of records that are all well formed
answers_other : (img : Image) (st : State) (rs : List Record) → every is_formed rs ≡ true → Each Other (answers_of img st rs)
unfolding answers_of every
answers_other img st [] h = tt
answers_other img st (call c ∷ rs) h = (reply_other img (step img st c).reply, answers_other img (step img st c).state rs h)
answers_other img st (malformed ∷ rs) h = absurd (yes_no h refl)
answers_other img st (cut ∷ rs) h = absurd (yes_no h refl)
answers_other img st (over ∷ rs) h = absurd (yes_no h refl)

pub out_answers : (day : List ℕ) → opened day ≡ Ok tt → Each Other (day_answers (day_rescue day).kept)
unfolding day_answers refused_line
out_answers day t =
    let o = (day_rescue day).kept in
    rw (opened_again day t) (byte_other _ 0 116 114 refl refl (λ e. omega (arith, e)), answers_other (image_in o) (fresh (image_in o)) (records_from (record_bytes o) 0) (out_formed day t))
