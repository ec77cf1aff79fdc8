-- The field of 257 codes: the remainders after division by 257, which is a prime.
use Rattle.std.specs.Prelude.{ℕ, ◌+◌, ◌-◌, ◌*◌, ◌%◌, ◌^◌}
use Rattle.field.specs.Laws.{Arithmetic, on_codes, on_code}

abbrev pub plus : ℕ → ℕ → ℕ
plus a b = (a + b) % 257

abbrev pub minus : ℕ → ℕ → ℕ
minus a b = (a + 257 - b) % 257

abbrev pub times : ℕ → ℕ → ℕ
times a b = a * b % 257

-- The inverse of a, since by Fermat's little theorem a ^ 256 leaves 1 where 257 does not divide a.
unfoldable pub reciprocal : ℕ → ℕ
reciprocal a = a ^ 255 % 257

abbrev pub arithmetic : Arithmetic
arithmetic = record { size = 257; add = on_codes 257 plus; sub = on_codes 257 minus; mul = on_codes 257 times }

abbrev pub inverted : ℕ → ℕ
inverted = on_code 257 reciprocal
