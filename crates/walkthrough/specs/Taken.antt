-- Which boards are taken away, and which remain.
use Rattle.std.specs.Prelude.{◌≡◌, ◌≤◌, ℕ, zero, suc, ◌+◌, ◌*◌, ◌%◌, Bool, cond, not, ◌&&◌, List, [], ◌∷◌, ◌++◌, ◌==◌, nat_le, nat_lt}
use Rattle.std.specs.Fn.{Shared}
use Rattle.walkthrough.specs.declared.choices.Away.{Away}
use Rattle.walkthrough.specs.declared.choices.Away.TheVariants.{Lowest, Highest, Middle, EveryThird}

-- Board j is taken away where t of 3t + 1 boards are.
abbrev pub taken : Away → ℕ → ℕ → Bool
taken Lowest t j = nat_le j t
taken Highest t j = nat_lt (2 * t + 1) j
taken Middle t j = nat_lt t j && nat_le j (2 * t)
taken EveryThird t j = j % 3 == 0

-- The boards 1 to n that pass a test, in rising order.
abbrev pub passing : (ℕ → Bool) → ℕ → List ℕ
passing test zero = []
passing test (suc n) = passing test n ++ cond (test (suc n)) (suc n ∷ []) []

-- Each call at a board from 1 to n answers as the test does.
pub record AnswersAs {W : Type 0} (g : Shared W (ℕ × Unit {0}) Bool) (is_usable : W) (test : ℕ → Bool) (n : ℕ) : Type 0 where
  pub says : (board : ℕ) (answer : Bool) → 1 ≤ board → board ≤ n → g.post is_usable (board, tt) answer → answer ≡ test board

-- The boards 1 to n that are not taken away, in rising order.
abbrev pub remaining : Away → ℕ → ℕ → List ℕ
remaining away t = passing (λ j. not (taken away t j))
