-- The lengths of a dispersal that tolerates t faulty boards, for blocks of r rows and elements of w bytes.
use Rattle.std.specs.Prelude.{ℕ, ◌+◌, ◌*◌, ◌/◌, Bool, ◌&&◌, nat_le}

-- t is 1 to 5, and r is 1 to 512.
abbrev pub in_range : ℕ → ℕ → Bool
in_range t r = (nat_le 1 t && nat_le t 5) && (nat_le 1 r && nat_le r 512)

-- n, the number of boards
abbrev pub board_count : ℕ → ℕ
board_count t = 3 * t + 1

-- Boards have the numbers 1 to n.
abbrev pub is_board : ℕ → ℕ → Bool
is_board t j = nat_le 1 j && nat_le j (board_count t)

-- the bytes of a row, which are the coefficients of its polynomial
abbrev pub row_length : ℕ → ℕ
row_length t = t + 1

-- K, the bytes of a block
abbrev pub block_length : ℕ → ℕ → ℕ
block_length t r = r * row_length t

-- S, the bytes of a fragment
abbrev pub fragment_length : ℕ → ℕ → ℕ
fragment_length w r = r * w

-- V, the bytes of a commitment vector: a digest of 32 bytes for each board
abbrev pub vector_length : ℕ → ℕ
vector_length t = board_count t * 32

-- Q, the rows of a vector that is filled up with zero bytes: V / (t + 1), rounded up
abbrev pub share_rows : ℕ → ℕ
share_rows t = (vector_length t + t) / row_length t

-- G, the bytes of a share
abbrev pub share_length : ℕ → ℕ → ℕ
share_length w t = share_rows t * w
