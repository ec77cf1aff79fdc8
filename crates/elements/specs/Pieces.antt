-- Byte strings made of pieces of one length.
use Rattle.std.specs.Prelude.{ℕ, zero, suc, ◌+◌, ◌-◌, ◌*◌, List, [], ◌++◌, length, take, drop, replicate}

-- The piece i, counted from 0, of w bytes; one that the string's end cuts is shorter.
abbrev pub piece : ℕ → List ℕ → ℕ → List ℕ
piece w xs i = take w (drop (i * w) xs)

-- f 0, f 1 and so on, n of them, one after another.
unfoldable pub laid : (ℕ → List ℕ) → ℕ → List ℕ
laid f zero = []
laid f (suc n) = laid f n ++ f n

-- A string filled up with zero bytes to n bytes.
abbrev pub filled : ℕ → List ℕ → List ℕ
filled n xs = xs ++ replicate (n - length xs) 0

-- xs with ys written over it from the place a on.
abbrev pub put : List ℕ → ℕ → List ℕ → List ℕ
put xs a ys = take a xs ++ (ys ++ drop (a + length ys) xs)
