-- Document 01, "Numbers of refusal": the number of each case. Assumes nothing.
use Rattle.std.specs.Prelude.{ℕ, ◌≡◌, refl, cond, eqb}
use Rattle.std.proofs.Common.{sym, ap, ◌∙◌}
use Rattle.refusals.specs.declared.Refusal.{Refusal}
use Rattle.refusals.specs.declared.Refusal.TheVariants.{Key, ArgumentTag, MappedTag, Waiting, Held, TargetMode, StateRule}

abbrev pub number_of : Refusal → ℕ
number_of Key = 5
number_of ArgumentTag = 6
number_of MappedTag = 7
number_of Waiting = 8
number_of Held = 9
number_of TargetMode = 10
number_of StateRule = 11

-- no two cases have one number
case_of : ℕ → Refusal
case_of n =
    cond (eqb n 5) Key (cond (eqb n 6) ArgumentTag (cond (eqb n 7) MappedTag (cond (eqb n 8) Waiting (cond (eqb n 9) Held (cond (eqb n 10) TargetMode StateRule)))))

case_back : (r : Refusal) → case_of (number_of r) ≡ r
unfolding case_of
case_back Key = refl
case_back ArgumentTag = refl
case_back MappedTag = refl
case_back Waiting = refl
case_back Held = refl
case_back TargetMode = refl
case_back StateRule = refl

pub same_number : (q r : Refusal) → number_of q ≡ number_of r → q ≡ r
same_number q r e = sym (case_back q) ∙ ap case_of e ∙ case_back r
