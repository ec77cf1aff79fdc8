-- Both digests are thirty-two bytes.
use Rattle.std.specs.Prelude.{ℕ, ◌+◌, ◌/◌, ◌<◌, List, [], ◌∷◌, map, length, refl}
use Rattle.std.proofs.Common.{arith}
use Rattle.std.specs.List.{range_with_len, flat_map}
use Rattle.std.proofs.lemmas.List.FromFn.{length-map-range_with_len}
use Rattle.std.proofs.ByRecursion.{All-append}
use Rattle.hash.specs.declared.sha2.State.{State}
use Rattle.hash.specs.Bytes.{Bytes, Digest}
use Rattle.hash.specs.Fold.{column, folded}
use Rattle.hash.specs.Sha256.{bytes, state_bytes, sha256, hashed, padded}
use Rattle.hash.specs.Columns.{column_byte}

-- a list that a function into the bytes makes
map-bytes : (f : ℕ → ℕ) → ((k : ℕ) → f k < 256) → (xs : List ℕ) → Bytes (map f xs)
map-bytes f h [] = tt
map-bytes f h (x ∷ xs) = (h x, map-bytes f h xs)

-- the bytes of a list of words
words-bytes : (xs : List ℕ) → Bytes (flat_map bytes xs)
words-bytes [] = tt
words-bytes (x ∷ xs) = All-append (λ b. b < 256) (bytes x) (flat_map bytes xs) (omega arith, (omega arith, (omega arith, (omega arith, tt)))) (words-bytes xs)

-- the bytes of a hash value
state_digest : (s : State) → Digest (state_bytes s)
state_digest s = (refl, words-bytes (s.a ∷ s.b ∷ s.c ∷ s.d ∷ s.e ∷ s.f ∷ s.g ∷ s.h ∷ []))

-- SHA-256 gives a digest, of any list
pub sha256_digest : (m : List ℕ) → Digest (sha256 m)
unfolding sha256
sha256_digest m = state_digest (hashed (length (padded m) / 64) (padded m))

-- the fold gives one of every byte string
pub folded_digest : (m : List ℕ) → Bytes m → Digest (folded m)
unfolding folded
folded_digest m b =
    let f : ℕ → ℕ = column m ((length m + 31) / 32) in
    (length-map-range_with_len f 0 32, map-bytes f (column_byte m b ((length m + 31) / 32)) (range_with_len 0 32))
