-- The commitment vector: the digests of all fragments, board 1's first.
use Rattle.std.specs.Prelude.{ℕ, ◌+◌, ◌-◌, Bool, ◌&&◌, List, length, ◌==◌}
use Rattle.field.specs.Laws.{Arithmetic}
use Rattle.shape.specs.declared.Shape.{Shape}
use Rattle.elements.specs.Pieces.{piece, laid}
use Rattle.shape.specs.Lengths.{board_count, vector_length}
use Rattle.coding.specs.Decoding.{held}
use Rattle.coding.specs.Shaped.{fragments_length}

-- The digest of the fragment x of board j.
abbrev pub fragment_digest : (List ℕ → List ℕ) → ℕ → List ℕ → List ℕ
fragment_digest hash j x = hash x

-- The entry of board j in a vector.
abbrev pub entry : List ℕ → ℕ → List ℕ
entry vector j = piece 32 vector (j - 1)

-- The vector of the fragments of all boards.
abbrev pub vector_of : (List ℕ → List ℕ) → Arithmetic → Shape → List ℕ → List ℕ
vector_of hash R s fragments = laid (λ i. fragment_digest hash (i + 1) (held R s fragments (i + 1))) (board_count s.faults)

-- There are fragments of all boards, and the vector has V bytes.
abbrev pub vector_fits : Arithmetic → Shape → List ℕ → List ℕ → Bool
vector_fits R s fragments vector = length fragments == fragments_length R s && length vector == vector_length s.faults
