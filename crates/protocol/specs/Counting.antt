-- The numbers 1 to k that pass a test: how many, whether all, and which.
use Rattle.std.specs.Prelude.{ℕ, zero, suc, ◌+◌, Bool, true, false, cond, ◌&&◌, List, [], ◌∷◌, ◌++◌, take}

abbrev pub tick : Bool → ℕ
tick true = 1
tick false = 0

-- How many pass.
unfoldable pub count : (ℕ → Bool) → ℕ → ℕ
count A zero = 0
count A (suc k) = tick (A (suc k)) + count A k

-- All pass.
unfoldable pub every : (ℕ → Bool) → ℕ → Bool
every A zero = true
every A (suc k) = every A k && A (suc k)

-- Those that pass, in rising order.
unfoldable pub those : (ℕ → Bool) → ℕ → List ℕ
those A zero = []
those A (suc k) = those A k ++ cond (A (suc k)) (suc k ∷ []) []

-- The m lowest of them.
abbrev pub lowest : ℕ → (ℕ → Bool) → ℕ → List ℕ
lowest m A k = take m (those A k)
