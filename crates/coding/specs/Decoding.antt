-- What decoding fragments answers.
use Rattle.std.specs.Prelude.{◌≡◌, ℕ, ◌+◌, ◌-◌, Bool, true, false, ◌&&◌, List, map, length, Ok, Err, Result, ◌==◌, codes}
use Rattle.std.specs.List.{AllByRecursion}
use Rattle.field.specs.Laws.{Arithmetic, width}
use Rattle.coding.specs.declared.decoding.Undecodable.{Undecodable}
use Rattle.coding.specs.declared.decoding.Undecodable.TheVariants.{Unfit, Overrun, Unreadable}
use Rattle.shape.specs.declared.Shape.{Shape}
use Rattle.elements.specs.Pieces.{piece}
use Rattle.polynomial.specs.Polynomial.{interpolated}
use Rattle.shape.specs.Lengths.{board_count, row_length, block_length, fragment_length}
use Rattle.elements.specs.Element.{element, Elements}
use Rattle.coding.specs.Code.{decoded}
use Rattle.hash.specs.Bytes.{Bytes}
use Rattle.polynomial.specs.Interpolation.{rising}
use Rattle.coding.specs.Shaped.{is_block, fragments_length, fragment_of}

-- t + 1 boards in rising order.
abbrev pub are_chosen : Shape → List ℕ → Bool
are_chosen s js = length js == row_length s.faults && rising 1 (board_count s.faults + 1) js

-- There are fragments of all boards, t + 1 boards are chosen, and the block has K bytes.
abbrev pub decode_fits : Arithmetic → Shape → List ℕ → List ℕ → List ℕ → Bool
decode_fits R s fragments js block = (length fragments == fragments_length R s && are_chosen s js) && is_block s block

-- The fragment that stands for board j.
abbrev pub held : Arithmetic → Shape → List ℕ → ℕ → List ℕ
held R s fragments j = piece (fragment_length (width R) s.rows) fragments (j - 1)

-- The elements of the chosen boards' fragments are codes.
abbrev pub Sound : Arithmetic → Shape → List ℕ → List ℕ → Type 0
Sound R s fragments js = AllByRecursion (λ j. Elements R (held R s fragments j) s.rows) js

-- The points of row i: the chosen boards, and the values that their fragments have there.
abbrev pub points_of : Arithmetic → Shape → List ℕ → List ℕ → ℕ → List (ℕ × ℕ)
points_of R s fragments js i = map (λ j. (j, element R (held R s fragments j) i)) js

-- The coefficients of row i, and those of all rows.
abbrev pub row_coefficients : Arithmetic → (ℕ → ℕ) → Shape → List ℕ → List ℕ → ℕ → List ℕ
row_coefficients R inv s fragments js i = interpolated R inv js (map (λ j. element R (held R s fragments j) i) js)

abbrev pub coefficients : Arithmetic → (ℕ → ℕ) → Shape → List ℕ → List ℕ → List ℕ
coefficients R inv s fragments js = decoded R inv s.rows js (held R s fragments)

-- What is said of each refusal.
abbrev pub reason : Undecodable → List ℕ
reason Unfit = codes "a length or the boards do not fit"
reason Overrun = codes "a fragment holds a number that the field does not have"
reason Unreadable = codes "the fragments are those of no block"

-- What holds of each answer; no two of these hold together.
abbrev pub Decoding : Arithmetic → (ℕ → ℕ) → Shape → List ℕ → List ℕ → List ℕ → Result (Unit {0}) Undecodable → List ℕ → Type 0
Decoding R inv s fragments js before (Ok u) after =
    (decode_fits R s fragments js before ≡ true) × Sound R s fragments js × Bytes (coefficients R inv s fragments js) × (after ≡ coefficients R inv s fragments js)
Decoding R inv s fragments js before (Err Unfit) after = (decode_fits R s fragments js before ≡ false) × (after ≡ before)
Decoding R inv s fragments js before (Err Overrun) after =
    (decode_fits R s fragments js before ≡ true) × (Sound R s fragments js → ⊥) × (after ≡ before)
Decoding R inv s fragments js before (Err Unreadable) after =
    (decode_fits R s fragments js before ≡ true) × Sound R s fragments js × (Bytes (coefficients R inv s fragments js) → ⊥) × (after ≡ before)

-- Any t + 1 of the fragments of a block decode to it.
abbrev pub DecodingUndoesEncoding : Arithmetic → Shape → List ℕ → List ℕ → List ℕ → Result (Unit {0}) Undecodable → List ℕ → Type 0
DecodingUndoesEncoding R s fragments js before r after =
    (block : List ℕ) → Bytes block → length block ≡ block_length s.faults s.rows → decode_fits R s fragments js before ≡ true →
    AllByRecursion (λ j. held R s fragments j ≡ fragment_of R s block j) js → (r ≡ Ok tt) × (after ≡ block)

-- The whole promise of decoding.
pub record Decodes (R : Arithmetic) (inv : ℕ → ℕ) (s : Shape) (fragments js before : List ℕ) (r : Result (Unit {0}) Undecodable) (after : List ℕ) : Type 0 where
  pub is : Decoding R inv s fragments js before r after
  pub undoes : DecodingUndoesEncoding R s fragments js before r after
