-- What the protocol is run with: how many boards and fetchers there are, what byte strings look like, and what is made of them.
-- The protocol knows no more of digests, shares and codes than the laws below.
use Rattle.std.specs.Prelude.{◌≡◌, ℕ, ◌+◌, ◌*◌, ◌<◌, ◌≤◌, Bool, true, ◌&&◌, List, Some, Option}
use Rattle.std.specs.List.{AllByRecursion}
use Rattle.std.specs.Str.{bytes_eq}
use Rattle.protocol.specs.Optional.{meets}
use Rattle.protocol.specs.Counting.{count, lowest}
use Rattle.protocol.specs.Messages.{Bytes, Message, send, echo, ready, hash, symbol}

pub record Setting : Type 0 where
  -- t, how many of the 3t + 1 boards may be turned (Byzantine), and how many fetchers there are
  pub t : ℕ
  pub fetchers : ℕ
  -- what a block, the coefficients of all rows, a commitment vector, a fragment and a share look like
  pub is_block : Bytes → Bool
  pub is_rows : List ℕ → Bool
  pub is_vector : Bytes → Bool
  pub is_fragment : Bytes → Bool
  pub is_share : Bytes → Bool
  -- the digest of a fragment of board j, and the entry of board j in a vector
  pub digest : ℕ → Bytes → Bytes
  pub entry : Bytes → ℕ → Bytes
  -- the fragment of board j and the vector that are made of the coefficients of all rows; a block is such coefficients
  pub fragment : List ℕ → ℕ → Bytes
  pub vector : List ℕ → Bytes
  -- the share of board j of a vector, and the vector that a quorum of the heard shares are of
  pub share : Bytes → ℕ → Bytes
  pub find : (ℕ → Option Bytes) → Option Bytes
  -- the coefficients of all rows, interpolated from the fragments of these boards
  pub interpolate : List ℕ → (ℕ → Bytes) → List ℕ

-- n, the number of boards.
abbrev pub boards : Setting → ℕ
boards S = 3 * S.t + 1

-- Of a quorum of 2t + 1 boards a majority is sound, and any two quorums share a sound board; of t + 1 boards one is sound.
abbrev pub quorum : Setting → ℕ
quorum S = 2 * S.t + 1

abbrev pub support : Setting → ℕ
support S = S.t + 1

abbrev pub IsBoard : Setting → ℕ → Type 0
IsBoard S j = (1 ≤ j) × (j ≤ boards S)

-- Fetchers are the receivers n + 1 to n + F.
abbrev pub IsFetcher : Setting → ℕ → Type 0
IsFetcher S r = (boards S < r) × (r ≤ boards S + S.fetchers)

-- The digest of the fragment x is the entry of board j.
abbrev pub fits : Setting → ℕ → Bytes → Bytes → Bool
fits S j v x = bytes_eq (S.entry v j) (S.digest j x)

-- What a message carries has the form that its kind asks for.
abbrev pub formed : Setting → Message → Bool
formed S (send v x) = S.is_vector v && S.is_fragment x
formed S (echo i v) = S.is_vector v
formed S (ready i v) = S.is_vector v
formed S (hash i s) = S.is_share s
formed S (symbol i x) = S.is_fragment x

-- The heard share of board i is that of v.
abbrev pub agrees : Setting → (ℕ → Option Bytes) → Bytes → ℕ → Bool
agrees S heard v i = meets (bytes_eq (S.share v i)) (heard i)

-- A vector is known by the shares heard once those of a quorum are its own.
abbrev pub Known : Setting → (ℕ → Option Bytes) → Bytes → Type 0
Known S heard v = (S.is_vector v ≡ true) × (quorum S ≤ count (agrees S heard v) (boards S))

pub record Laws (S : Setting) : Type 0 where
  -- What is made of a block has its form, and every fragment fits its entry.
  pub block_rows : (d : Bytes) → S.is_block d ≡ true → S.is_rows d ≡ true
  pub block_vector : (d : Bytes) → S.is_block d ≡ true → S.is_vector (S.vector d) ≡ true
  pub block_fragment : (d : Bytes) → S.is_block d ≡ true → (j : ℕ) → IsBoard S j → S.is_fragment (S.fragment d j) ≡ true
  pub block_entry : (d : Bytes) → S.is_block d ≡ true → (j : ℕ) → IsBoard S j → S.entry (S.vector d) j ≡ S.digest j (S.fragment d j)
  pub vector_share : (v : Bytes) → S.is_vector v ≡ true → (j : ℕ) → IsBoard S j → S.is_share (S.share v j) ≡ true
  -- Two vectors whose shares agree at t + 1 boards are equal.
  pub shares_fix : (v w : Bytes) → S.is_vector v ≡ true → S.is_vector w ≡ true
      → support S ≤ count (λ i. bytes_eq (S.share v i) (S.share w i)) (boards S) → v ≡ w
  -- The search finds the vector that is known, and no other.
  pub found : (heard : ℕ → Option Bytes) (v : Bytes) → S.find heard ≡ Some v → Known S heard v
  pub finds : (heard : ℕ → Option Bytes) (v : Bytes) → Known S heard v → S.find heard ≡ Some v
  -- What is interpolated from fragments of t + 1 boards are coefficients, and from the fragments of coefficients, these.
  pub interpolated_rows : (A : ℕ → Bool) (x : ℕ → Bytes) → support S ≤ count A (boards S)
      → AllByRecursion (λ j. S.is_fragment (x j) ≡ true) (lowest (support S) A (boards S))
      → S.is_rows (S.interpolate (lowest (support S) A (boards S)) x) ≡ true
  pub interpolated_back : (A : ℕ → Bool) (x : ℕ → Bytes) (c : List ℕ) → support S ≤ count A (boards S) → S.is_rows c ≡ true
      → AllByRecursion (λ j. x j ≡ S.fragment c j) (lowest (support S) A (boards S))
      → S.interpolate (lowest (support S) A (boards S)) x ≡ c
