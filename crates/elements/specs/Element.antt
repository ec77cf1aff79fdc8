-- The elements of a fragment or a share: codes of w bytes each, the high byte first.
use Rattle.std.specs.Prelude.{ℕ, zero, suc, ◌<◌, ◌≤◌, List, Some, None, Option, nat_le}
use Rattle.std.specs.Option.{option_or}
use Rattle.std.specs.Bool.{then_some}
use Rattle.field.specs.Laws.{Arithmetic, width}
use Rattle.elements.specs.Pieces.{piece}
use Rattle.elements.specs.Numbers.{number}

-- The element i of a fragment or a share, as the number that its bytes write.
abbrev pub element : Arithmetic → List ℕ → ℕ → ℕ
element R x i = number (piece (width R) x i)

-- The first n elements of a part are codes.
abbrev pub Elements : Arithmetic → List ℕ → ℕ → Type 0
Elements R x n = (i : ℕ) → i < n → element R x i < R.size

-- The first of n elements that is not a code.
abbrev pub FirstOverrun : Arithmetic → List ℕ → ℕ → Option ℕ → Type 0
FirstOverrun R x n (Some i) = (i < n) × (R.size ≤ element R x i) × Elements R x i
FirstOverrun R x n None = Elements R x n

-- The same as a function.
unfoldable pub first_overrun : Arithmetic → List ℕ → ℕ → Option ℕ
first_overrun R x zero = None
first_overrun R x (suc n) = option_or (first_overrun R x n) (then_some (nat_le R.size (element R x n)) n)
