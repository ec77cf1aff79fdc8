-- The columns of `Fold`. Assumes nothing.
use Rattle.std.specs.Prelude.{◌≡◌, ℕ, zero, suc, ◌+◌, ◌*◌, ◌/◌, ◌%◌, ◌<◌, ◌≤◌, List, [], ◌∷◌, length, bit_xor, slice_index}
use Rattle.std.proofs.Common.{sym, ap, ◌∙◌, ⊎_elim, add-one, arith}
use Rattle.std.specs.Int.Bits.{xor_zero_r}
use Rattle.std.proofs.lemmas.Nat.{xor_lt}
use Rattle.std.proofs.lemmas.List.{get_or_past}
use Rattle.std.proofs.lemmas.Bool.{cases_eq}
use Rattle.hash.specs.Bytes.{Bytes}
use Rattle.hash.specs.Fold.{column}

-- past its end a piece changes nothing
pub xor_past : (x : ℕ) (m : List ℕ) (i : ℕ) → length m ≤ i → bit_xor x (slice_index m i) ≡ x
xor_past x m i h = ap (bit_xor x) (get_or_past m i 0 h) ∙ xor_zero_r x

-- one piece more
pub column-more : (m : List ℕ) (k i : ℕ) → column m (k + 1) i ≡ bit_xor (column m k i) (slice_index m (32 * k + i))
column-more m k i = rw add-one

-- the rest after the whole pieces, which may be empty
pub column_end : (m : List ℕ) (i : ℕ) → bit_xor (column m (length m / 32) i) (slice_index m (32 * (length m / 32) + i)) ≡ column m ((length m + 31) / 32) i
column_end m i =
    let q = length m / 32 in
    ⊎_elim
    (λ none.
    let same : q ≡ (length m + 31) / 32 = omega arith in
    xor_past (column m q i) m (32 * q + i) (omega arith) ∙ ap (λ k. column m k i) same)
    (λ some.
    let more : q + 1 ≡ (length m + 31) / 32 = omega arith in
    sym (column-more m q i) ∙ ap (λ k. column m k i) more)
    (cases_eq (length m % 32) 0)

-- past the end of a byte string stands 0
byte_at : (m : List ℕ) → Bytes m → (i : ℕ) → slice_index m i < 256
byte_at [] b i = omega arith
byte_at (x ∷ m) b zero = b.0
byte_at (x ∷ m) b (suc i) = byte_at m b.1 i

-- a column of bytes adds up to a byte
pub column_byte : (m : List ℕ) → Bytes m → (k i : ℕ) → column m k i < 256
column_byte m b zero i = omega arith
column_byte m b (suc k) i = xor_lt 8 (column m k i) (slice_index m (32 * k + i)) (column_byte m b k i) (byte_at m b (32 * k + i))
