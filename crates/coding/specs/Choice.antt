-- What the fragments of chosen boards give, row by row.
use Rattle.std.specs.Prelude.{ℕ, List}
use Rattle.field.specs.Laws.{Arithmetic}
use Rattle.coding.specs.declared.chosen.Chosen.{Chosen}
use Rattle.coding.specs.Decoding.{Sound, points_of, row_coefficients, coefficients}

-- The elements of the chosen boards' fragments are codes.
abbrev pub IsSound : {T : Type 0} {F : _} → Arithmetic → Chosen T F → Type 0
IsSound R c = Sound R c.fragments.shape c.fragments.bytes.now c.boards.now

-- The points of row i, its coefficients, and those of all rows.
abbrev pub points_at : {T : Type 0} {F : _} → Arithmetic → Chosen T F → ℕ → List (ℕ × ℕ)
points_at R c = points_of R c.fragments.shape c.fragments.bytes.now c.boards.now

abbrev pub row_at : {T : Type 0} {F : _} → Arithmetic → (ℕ → ℕ) → Chosen T F → ℕ → List ℕ
row_at R inv c = row_coefficients R inv c.fragments.shape c.fragments.bytes.now c.boards.now

abbrev pub rows_in : {T : Type 0} {F : _} → Arithmetic → (ℕ → ℕ) → Chosen T F → List ℕ
rows_in R inv c = coefficients R inv c.fragments.shape c.fragments.bytes.now c.boards.now
