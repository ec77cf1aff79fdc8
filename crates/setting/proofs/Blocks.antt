-- What is made of a block has its form, and every fragment fits its entry.
use Rattle.std.proofs.Common.{◌≡◌, ℕ, ◌+◌, ◌-◌, ◌<◌, ◌≤◌, true, List, ap, ◌∙◌, arith}
use Rattle.field.specs.Laws.{Arithmetic, FieldLaws, width}
use Rattle.hash.specs.Bytes.{Bytes, Digest}
use Rattle.shape.specs.declared.Shape.{Shape}
use Rattle.shape.specs.Lengths.{board_count, row_length, fragment_length, vector_length}
use Rattle.elements.specs.Pieces.{piece, laid}
use Rattle.elements.proofs.Pieces.{piece-laid, laid_same, length-laid}
use Rattle.coding.specs.Code.{fragment}
use Rattle.coding.specs.Commitment.{fragment_digest, entry, vector_of}
use Rattle.coding.specs.Decoding.{held}
use Rattle.coding.specs.Shaped.{fragments_of}
use Rattle.coding.proofs.Decoded.{bytes_codes}
use Rattle.coding.proofs.Encoded.{coded-length}
use Rattle.setting.specs.Concrete.{are_below, is_vector, is_part, vector}
use Rattle.setting.proofs.Forms.{are_below_true, are_below-from, all_laid, coded-bytes, coded_part}

pub block_rows : (R : Arithmetic) (inv : ℕ → ℕ) → FieldLaws R inv → (n : ℕ) (d : List ℕ) → are_below 256 n d ≡ true → are_below R.size n d ≡ true
block_rows R inv I n d e = let p = are_below_true 256 n d e in are_below-from R.size n d (p.0, bytes_codes R inv I d p.1)

module _ (R : Arithmetic) (inv : ℕ → ℕ) (I : FieldLaws R inv) (t r : ℕ) (d : List ℕ) where
  pub block_fragment : (j : ℕ) → is_part R r (fragment R t r d j) ≡ true
  block_fragment = coded_part R I.ring (row_length t) r d

  module _ (hash : List ℕ → List ℕ) (sound : (m : List ℕ) → Bytes m → Digest (hash m)) where
    abbrev digest_after : ℕ → List ℕ
    digest_after i = fragment_digest hash (i + 1) (fragment R t r d (i + 1))

    digests : (i : ℕ) → Digest (digest_after i)
    digests i = sound (fragment R t r d (i + 1)) (coded-bytes R I.ring (row_length t) r d (i + 1))

    pub block_vector : is_vector t (vector R hash t r d) ≡ true
    block_vector =
        are_below-from 256 (vector_length t) (vector R hash t r d) (
          length-laid digest_after 32 (board_count t) (λ i h. (digests i).0),
          all_laid (λ b. b < 256) digest_after (board_count t) (λ i h. (digests i).1),
        )

    pub block_entry : (j : ℕ) → 1 ≤ j → j ≤ board_count t → entry (vector R hash t r d) j ≡ fragment_digest hash j (fragment R t r d j)
    block_entry j low high =
        let same : j - 1 + 1 ≡ j = omega arith in
        piece-laid digest_after 32 (board_count t) (j - 1) (omega arith) (λ i h. (digests i).0)
        ∙ ap (λ j. fragment_digest hash j (fragment R t r d j)) same

-- The vector of a block is the one that is committed to once all its fragments are made.
pub vector_committed : (R : Arithmetic) (hash : List ℕ → List ℕ) (s : Shape) (d : List ℕ) → vector_of hash R s (fragments_of R s d) ≡ vector R hash s.faults s.rows d
vector_committed R hash s d =
    let n = board_count s.faults in
    let S = fragment_length (width R) s.rows in
    let of : ℕ → List ℕ = λ i. fragment R s.faults s.rows d (i + 1) in
    laid_same (λ i. fragment_digest hash (i + 1) (held R s (laid of n) (i + 1))) (λ i. fragment_digest hash (i + 1) (of i)) n
    (λ i h.
    let same : i + 1 - 1 ≡ i = omega arith in
    ap (fragment_digest hash (i + 1)) (ap (piece S (laid of n)) same ∙ piece-laid of S n i h (λ i h. coded-length R (row_length s.faults) s.rows d (i + 1))))
