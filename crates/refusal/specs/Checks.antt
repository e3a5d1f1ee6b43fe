-- Tests taken together, and the number of the first check that is not met (document 01, "What stops an
-- audit": the lowest number that applies is given; each stands only if those before it do not).
use Rattle.std.specs.Prelude.{Bool, true, false, cond, List, [], ◌∷◌, ℕ, eqb}

-- all of them hold
unfoldable pub all : List Bool → Bool
all [] = true
all (b ∷ bs) = cond b (all bs) false

-- the test holds of every element
unfoldable pub every : {A : Type 0} → (A → Bool) → List A → Bool
every test [] = true
every test (x ∷ xs) = cond (test x) (every test xs) false

-- a number, and whether its check is met
pub record Check : Type 0 where
  pub number : ℕ
  pub met : Bool

unfoldable pub check : ℕ → Bool → Check
check number met = record { number = number; met = met }

-- the number of the first check that is not met, 0 if all are
unfoldable pub refusal : List Check → ℕ
refusal [] = 0
refusal (c ∷ cs) = cond c.met (refusal cs) c.number

-- numbers in order: the first that is not 0
unfoldable pub first : ℕ → ℕ → ℕ
first a b = cond (eqb a 0) b a
