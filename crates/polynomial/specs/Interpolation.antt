-- Rising lists of codes, the basis at such a list, and what interpolation by a basis answers.
use Rattle.std.specs.Prelude.{◌≡◌, ℕ, ◌+◌, Bool, true, cond, ◌&&◌, List, [], ◌∷◌, map, length, take, Some, None, Option, nat_le, nat_lt}
use Rattle.std.specs.List.{range_with_len}
use Rattle.std.specs.Str.{bytes_eq as same_numbers}
use Rattle.field.specs.Laws.{Arithmetic}
use Rattle.polynomial.specs.declared.interpolation.Basis.{Basis}
use Rattle.polynomial.specs.Polynomial.{interpolated, Interpolates, dot, column, IsBasis}

-- The first is at least low, each one after it is above the one before, and all are below high.
abbrev pub rising : ℕ → ℕ → List ℕ → Bool
rising low high [] = true
rising low high (x ∷ xs) = (nat_le low x && nat_lt x high) && rising (x + 1) high xs

-- One to six codes of the field, in rising order.
abbrev pub admitted : Arithmetic → List ℕ → Bool
admitted R xs = (nat_le 1 (length xs) && nat_le (length xs) 6) && rising 0 R.size xs

-- The codes of a basis, and the rows of its table.
abbrev pub codes_at : Basis → List ℕ
codes_at b = map (λ e. e.code) (take b.count b.entries)

abbrev pub rows_of : Basis → List (List ℕ)
rows_of b = map (λ e. e.row) b.entries

-- What a basis at the codes xs holds.
pub record BasisOf (R : Arithmetic) (inv : ℕ → ℕ) (xs : List ℕ) (b : Basis) : Type 0 where
  pub as_many : b.count ≡ length xs
  pub places : codes_at b ≡ xs
  pub table : IsBasis R inv xs (rows_of b)

-- The codes at which points stand, and their values there.
abbrev pub codes_of : List (ℕ × ℕ) → List ℕ
codes_of = map (λ p. p.0)

abbrev pub values_of : List (ℕ × ℕ) → List ℕ
values_of = map (λ p. p.1)

-- The points stand at the codes of the basis, in their order.
abbrev pub stands_at : Basis → List (ℕ × ℕ) → Bool
stands_at b ps = same_numbers (codes_of ps) (codes_at b)

-- The six coefficients that the table of a basis makes of the values of the points.
abbrev pub combined : Arithmetic → Basis → List (ℕ × ℕ) → List ℕ
combined R b ps = map (λ i. dot R (values_of ps) (column i (rows_of b))) (range_with_len 0 6)

-- They are the answer for points at the codes of the basis, and there is none for others.
abbrev pub answered : Arithmetic → Basis → List (ℕ × ℕ) → Option (List ℕ)
answered R b ps = cond (stands_at b ps) (Some (combined R b ps)) None

-- The first of the coefficients cs are those of the polynomial with the values vs at the codes xs, which is the only one.
pub record Solves (R : Arithmetic) (inv : ℕ → ℕ) (xs vs cs : List ℕ) : Type 0 where
  pub newton : take (length xs) cs ≡ interpolated R inv xs vs
  pub solution : Interpolates R xs vs (take (length xs) cs)
