-- What the calls on a shape ask of their arguments, and what they write.
use Rattle.std.specs.Prelude.{ℕ, ◌+◌, ◌*◌, Bool, ◌&&◌, if◌then◌else◌, List, length, Ok, Err, Result, ◌==◌, nat_le}
use Rattle.field.specs.Laws.{Arithmetic, width}
use Rattle.shape.specs.declared.Shape.{Shape}
use Rattle.elements.specs.Pieces.{laid}
use Rattle.shape.specs.Lengths.{is_board, board_count, block_length, fragment_length, vector_length, share_length}
use Rattle.coding.specs.Code.{fragment, share}
use Rattle.coding.specs.declared.encoding.Unencodable.{Unencodable}
use Rattle.coding.specs.declared.encoding.Unencodable.TheVariants.{NoBoard, Length}

-- The block has K bytes.
abbrev pub is_block : Shape → List ℕ → Bool
is_block s block = length block == block_length s.faults s.rows

-- The bytes of all fragments.
abbrev pub fragments_length : Arithmetic → Shape → ℕ
fragments_length R s = board_count s.faults * fragment_length (width R) s.rows

-- There is a board j, the block has K bytes, and the part S.
abbrev pub fragment_fits : Arithmetic → Shape → List ℕ → ℕ → List ℕ → Bool
fragment_fits R s block j part = (is_board s.faults j && is_block s block) && length part == fragment_length (width R) s.rows

-- There is a board j, the vector has V bytes, and the part G.
abbrev pub share_fits : Arithmetic → Shape → List ℕ → ℕ → List ℕ → Bool
share_fits R s vector j part = (is_board s.faults j && length vector == vector_length s.faults) && length part == share_length (width R) s.faults

-- The block has K bytes, and the memory room for all fragments.
abbrev pub fragments_fit : Arithmetic → Shape → List ℕ → List ℕ → Bool
fragments_fit R s block memory = is_block s block && nat_le (fragments_length R s) (length memory)

-- Ok where all fits. Else why not: that there is no such board goes before a length.
abbrev pub answered : Bool → Bool → Result (Unit {0}) Unencodable
answered fits there = if fits then Ok tt else Err (if there then Length else NoBoard)

-- The fragment and the share of board j.
abbrev pub fragment_of : Arithmetic → Shape → List ℕ → ℕ → List ℕ
fragment_of R s block j = fragment R s.faults s.rows block j

abbrev pub share_of : Arithmetic → Shape → List ℕ → ℕ → List ℕ
share_of R s vector j = share R s.faults vector j

-- The fragments of all boards, board 1's first.
abbrev pub fragments_of : Arithmetic → Shape → List ℕ → List ℕ
fragments_of R s block = laid (λ i. fragment_of R s block (i + 1)) (board_count s.faults)
