-- Numbers as bytes, the high byte first.
use Rattle.std.specs.Prelude.{ℕ, zero, suc, ◌+◌, ◌*◌, ◌/◌, ◌%◌, List, [], ◌∷◌, ◌++◌}

-- v written in w bytes.
abbrev pub written : ℕ → ℕ → List ℕ
written zero v = []
written (suc w) v = written w (v / 256) ++ (v % 256 ∷ [])

-- The number that the bytes after those of a write.
abbrev pub number_after : ℕ → List ℕ → ℕ
number_after a [] = a
number_after a (b ∷ bs) = number_after (256 * a + b) bs

abbrev pub number : List ℕ → ℕ
number = number_after 0
