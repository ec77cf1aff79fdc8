-- Byte strings, and what a digest is.
use Rattle.std.specs.Prelude.{◌≡◌, ℕ, ◌<◌, List, length}
use Rattle.std.specs.List.{AllByRecursion}

abbrev pub Bytes : List ℕ → Type 0
Bytes = AllByRecursion (λ b. b < 256)

-- Thirty-two bytes.
abbrev pub Digest : List ℕ → Type 0
Digest d = (length d ≡ 32) × Bytes d
