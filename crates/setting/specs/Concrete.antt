-- The setting that the parties run in: the Reed-Solomon code over a field for fragments and shares, and a hash for digests.
use Rattle.std.specs.Prelude.{ℕ, zero, suc, ◌+◌, ◌-◌, ◌*◌, Bool, true, ◌&&◌, ltb, List, [], ◌∷◌, length, take, Some, None, Option, ◌==◌, nat_le, nat_lt}
use Rattle.std.specs.Option.{unwrap_or}
use Rattle.std.specs.Str.{bytes_eq}
use Rattle.field.specs.Laws.{Arithmetic, width}
use Rattle.shape.specs.Lengths.{board_count, row_length, block_length, vector_length, share_rows}
use Rattle.elements.specs.Pieces.{laid}
use Rattle.elements.specs.Element.{element}
use Rattle.coding.specs.Code.{fragment, share, decoded}
use Rattle.coding.specs.Commitment.{fragment_digest, entry}
use Rattle.protocol.specs.Optional.{first, passing, meets}
use Rattle.protocol.specs.Counting.{count, every}
use Rattle.protocol.specs.Messages.{Bytes}
use Rattle.protocol.specs.Setting.{Setting}

-- All numbers are below q.
unfoldable pub all_below : ℕ → List ℕ → Bool
all_below q [] = true
all_below q (x ∷ xs) = nat_lt x q && all_below q xs

-- There are n numbers, all below q.
abbrev pub are_below : ℕ → ℕ → List ℕ → Bool
are_below q n xs = length xs == n && all_below q xs

-- A vector has V bytes.
abbrev pub is_vector : ℕ → Bytes → Bool
is_vector t = are_below 256 (vector_length t)

-- A fragment or a share: the bytes of q elements, each of which is a code of the field.
abbrev pub is_part : Arithmetic → ℕ → Bytes → Bool
is_part R q x = are_below 256 (q * width R) x && every (λ i. ltb (element R x (i - 1)) R.size) q

-- The vector of a block: the digests of its fragments, board 1's first.
abbrev pub vector : Arithmetic → (List ℕ → List ℕ) → ℕ → ℕ → List ℕ → Bytes
vector R hash t r d = laid (λ i. fragment_digest hash (i + 1) (fragment R t r d (i + 1))) (board_count t)

-- The first answer of a test that is tried on every list of k of the boards 1 to n, followed by js.
unfoldable pub first_answer : (List ℕ → Option Bytes) → ℕ → ℕ → List ℕ → Option Bytes
first_answer test zero n js = test js
first_answer test (suc k) zero js = None
first_answer test (suc k) (suc n) js = first (first_answer test k n (suc n ∷ js)) (first_answer test (suc k) n js)

-- The heard share of board i is that of the vector v.
abbrev pub agrees : Arithmetic → ℕ → (ℕ → Option Bytes) → Bytes → ℕ → Bool
agrees R t heard v i = meets (bytes_eq (share R t v i)) (heard i)

-- The heard shares of a quorum of 2t + 1 boards are those of v.
abbrev pub is_known : Arithmetic → ℕ → (ℕ → Option Bytes) → Bytes → Bool
is_known R t heard v = is_vector t v && nat_le (2 * t + 1) (count (agrees R t heard v) (board_count t))

-- What the heard shares of the boards js decode to, without the zero bytes that fill the last row up.
abbrev pub candidate : Arithmetic → (ℕ → ℕ) → ℕ → (ℕ → Option Bytes) → List ℕ → Bytes
candidate R inv t heard js = take (vector_length t) (decoded R inv (share_rows t) js (λ j. unwrap_or (heard j) []))

-- The vector that a quorum of the heard shares are of, looked for among what t + 1 of them decode to.
abbrev pub find : Arithmetic → (ℕ → ℕ) → ℕ → (ℕ → Option Bytes) → Option Bytes
find R inv t heard = first_answer (λ js. passing (is_known R t heard) (Some (candidate R inv t heard js))) (row_length t) (board_count t) []

-- The setting of a field, a hash, t, blocks of r rows, and f fetchers.
abbrev pub setting : Arithmetic → (ℕ → ℕ) → (List ℕ → List ℕ) → ℕ → ℕ → ℕ → Setting
setting R inv hash t r f = record {
  t = t;
  fetchers = f;
  is_block = are_below 256 (block_length t r);
  is_rows = are_below R.size (block_length t r);
  is_vector = is_vector t;
  is_fragment = is_part R r;
  is_share = is_part R (share_rows t);
  digest = fragment_digest hash;
  entry = entry;
  fragment = fragment R t r;
  vector = vector R hash t r;
  share = share R t;
  find = find R inv t;
  interpolate = decoded R inv r;
}
