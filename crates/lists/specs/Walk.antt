-- Steps that may refuse, taken one at a time: the first to refuse decides. The refusal's type is a parameter. Assumes nothing.
use Rattle.std.specs.Prelude.{◌≡◌, refl, List, [], ◌∷◌, ℕ}
use Rattle.std.proofs.Common.{arith}

-- what a step comes to, or its refusal
pub data Result (R A : Type 0) : Type 0 where
  done : A → Result R A
  refused : R → Result R A

infixl 20 ◌>>=◌
abbrev pub ◌>>=◌ : {R A B : Type 0} → Result R A → (A → Result R B) → Result R B
◌>>=◌ (done a) k = k a
◌>>=◌ (refused r) k = refused r

-- one at a time as listed, and the first to overrun decides
unfoldable pub walk : {R A S : Type 0} → (S → A → Result R S) → S → List A → Result R S
walk f s [] = done s
walk f s (a ∷ l) = f s a >>= λ t. walk f t l

module _ {R A S : Type 0} (f : S → A → Result R S) where
  pub walk_done : (s t : S) (a : A) (l : List A) → f s a ≡ done t → walk f s (a ∷ l) ≡ walk f t l
  unfolding walk
  walk_done s t a l e = rw e

  pub walk_refused : (s : S) (r : R) (a : A) (l : List A) → f s a ≡ refused r → walk f s (a ∷ l) ≡ refused r
  unfolding walk
  walk_refused s r a l e = rw e

-- what a step that is done came from
module _ {R A B : Type 0} {P : Type 0} where
  pub bind_done : (r : Result R A) (k : A → Result R B) {b : B} → (r >>= k) ≡ done b → ((a : A) → r ≡ done a → k a ≡ done b → P) → P
  bind_done (done a) k e f = f a refl e
  bind_done (refused x) k e f = absurd (let z : ◌≡◌ {A = ℕ} 0 1 = cc in omega arith)
