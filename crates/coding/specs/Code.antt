-- The Reed-Solomon code: what board j holds of a block and of a commitment vector, and how they are decoded.
use Rattle.std.specs.Prelude.{◌≡◌, ℕ, ◌*◌, ◌≤◌, List, map, length}
use Rattle.field.specs.Laws.{Arithmetic, width}
use Rattle.hash.specs.Bytes.{Bytes}
use Rattle.elements.specs.Pieces.{piece, laid, filled}
use Rattle.elements.specs.Numbers.{written}
use Rattle.elements.specs.Element.{element}
use Rattle.std.specs.List.{AllByRecursion}
use Rattle.polynomial.specs.Polynomial.{Distinct, eval, interpolated}
use Rattle.shape.specs.Lengths.{board_count, row_length, vector_length, share_rows}

-- The values at the code j of the first q rows of k bytes of xs, each written as an element.
abbrev pub coded : Arithmetic → ℕ → ℕ → List ℕ → ℕ → List ℕ
coded R k q xs j = laid (λ i. written (width R) (eval R (piece k xs i) j)) q

-- The fragment of board j of a block of r rows.
abbrev pub fragment : Arithmetic → ℕ → ℕ → List ℕ → ℕ → List ℕ
fragment R t r block j = coded R (row_length t) r block j

-- The share of board j of a vector, which is filled up with zero bytes to whole rows.
abbrev pub share : Arithmetic → ℕ → List ℕ → ℕ → List ℕ
share R t vector j = coded R (row_length t) (share_rows t) (filled (share_rows t * row_length t) vector) j

-- The coefficients of q rows, row after row, from the parts of the boards js.
abbrev pub decoded : Arithmetic → (ℕ → ℕ) → ℕ → List ℕ → (ℕ → List ℕ) → List ℕ
decoded R inv q js part = laid (λ i. interpolated R inv js (map (λ j. element R (part j) i) js)) q

-- t + 1 different boards.
pub record Chosen (t : ℕ) (js : List ℕ) : Type 0 where
  pub enough : length js ≡ row_length t
  pub boards : AllByRecursion (λ j. (1 ≤ j) × (j ≤ board_count t)) js
  pub distinct : Distinct js

-- Two commitment vectors whose shares agree at t + 1 boards are equal.
abbrev pub SharesFixVectors : Arithmetic → ℕ → Type 0
SharesFixVectors R t =
    (js v u : List ℕ) → Chosen t js → Bytes v → Bytes u → length v ≡ vector_length t → length u ≡ vector_length t →
    AllByRecursion (λ j. share R t v j ≡ share R t u j) js → v ≡ u
