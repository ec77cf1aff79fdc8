-- The powers of 3 in the field of 256 codes, each code but 0 among them, and what the tables of powers and of logarithms have at each place.
-- In the place of a logarithm of 0 stands 510, so the sum of two entries reaches 510 just where one of them is that of 0.
use Rattle.std.specs.Prelude.{◌≡◌, ℕ, zero, suc, ◌<◌, ◌≤◌, ◌≢◌}
use Rattle.field256.specs.Gf256.{product}

unfoldable pub power : ℕ → ℕ
power zero = 1
power (suc k) = product 3 (power k)

-- The table of powers has r at k.
pub record PowerEntry (k r : ℕ) : Type 0 where
  pub below : k < 510 → r ≡ power k
  pub above : 510 ≤ k → r ≡ 0

-- The table of logarithms has k at a.
pub record LogarithmEntry (a k : ℕ) : Type 0 where
  pub most : k ≤ 510
  pub of_zero : a ≡ 0 → k ≡ 510
  pub of_other : (a ≢ 0) → (k < 255) × (power k ≡ a)
