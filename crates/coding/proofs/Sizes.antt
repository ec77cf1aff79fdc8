-- The lengths of a dispersal fit together.
use Rattle.std.proofs.Common.{◌≡◌, ℕ, ◌+◌, ◌*◌, ◌%◌, ◌<◌, ◌≤◌, true, leb, List, mod-lt, arith}
use Rattle.std.specs.List.{AllByRecursion}
use Rattle.std.proofs.lemmas.Bool.{and_parts, leb-true}
use Rattle.std.proofs.lemmas.Nat.{div-add-mod', mul-le}
use Rattle.std.proofs.ByRecursion.{All-weaker}
use Rattle.field.specs.Laws.{Arithmetic, RingLaws}
use Rattle.polynomial.specs.Polynomial.{Codes}
use Rattle.shape.specs.Lengths.{is_board, board_count, row_length, vector_length, share_rows}

module _ (t : ℕ) where
  whole : share_rows t * row_length t + (vector_length t + t) % row_length t ≡ vector_length t + t
  whole = div-add-mod' (vector_length t + t) (row_length t)

  rest : (vector_length t + t) % row_length t < row_length t
  rest = mod-lt (vector_length t + t) (omega arith)

  -- The rows of shares hold the vector.
  pub share_rows_enough : vector_length t ≤ share_rows t * row_length t
  share_rows_enough = omega (arith, whole, rest)

-- There are few of them.
pub share_rows_few : (t : ℕ) → 1 ≤ t → t ≤ 5 → share_rows t ≤ 512
share_rows_few t low high = omega (arith, whole t, mul-le (share_rows t) 2 (share_rows t) (row_length t) (omega arith) (omega arith))

-- The numbers of boards are codes of every field.
pub boards_codes : (R : Arithmetic) (L : RingLaws R) (t : ℕ) (js : List ℕ) → t ≤ 5 → AllByRecursion (λ j. (1 ≤ j) × (j ≤ board_count t)) js → Codes R js
boards_codes R L t js small = All-weaker (λ j. (1 ≤ j) × (j ≤ board_count t)) (λ a. a < R.size) (λ j h. omega (arith, h.1, L.least)) js

pub board-code : (R : Arithmetic) (L : RingLaws R) (t j : ℕ) → t ≤ 5 → is_board t j ≡ true → j < R.size
board-code R L t j small e = omega (arith, leb-true j (board_count t) (and_parts (leb 1 j) (leb j (board_count t)) e).1, L.least)
