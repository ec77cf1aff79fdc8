-- The field of 256 codes of FIPS 197. A number is a polynomial over the field of two elements: its bit i is the coefficient of x ^ i.
-- So sum and difference are the exclusive or, and the product is that of polynomials, reduced by x ^ 8 + x ^ 4 + x ^ 3 + x + 1.
use Rattle.std.specs.Prelude.{ℕ, zero, suc, ◌+◌, ◌*◌, ◌/◌, ◌%◌, ◌^◌, bit_xor}
use Rattle.field.specs.Laws.{Arithmetic, on_codes, on_code}

-- The polynomial x ^ 8 + x ^ 4 + x ^ 3 + x + 1.
abbrev pub modulus : ℕ
modulus = 0x11b

-- The product of the polynomial a with the lowest n terms of b.
unfoldable pub times : ℕ → ℕ → ℕ → ℕ
times zero a b = 0
times (suc n) a b = bit_xor (b % 2 * a) (times n a (b / 2) * 2)

-- The remainder, by the modulus, of a polynomial of degree below 8 + k.
unfoldable pub reduced : ℕ → ℕ → ℕ
reduced zero p = p
reduced (suc k) p = reduced k (bit_xor p (p / 2 ^ (8 + k) % 2 * (modulus * 2 ^ k)))

-- Two codes have degrees below 8, and their product one below 15.
unfoldable pub product : ℕ → ℕ → ℕ
product a b = reduced 7 (times 8 a b)

-- The product of a ^ 2, a ^ 4, a ^ 8 and so on, n factors.
unfoldable pub squares : ℕ → ℕ → ℕ
squares zero a = 1
squares (suc n) a = product (product a a) (squares n (product a a))

abbrev pub arithmetic : Arithmetic
arithmetic = record { size = 256; add = on_codes 256 bit_xor; sub = on_codes 256 bit_xor; mul = on_codes 256 product }

-- The inverse of a is a ^ 254, since a ^ 255 is 1 for each of the 255 codes but 0. And 254 is 2 + 4 + .. + 128, seven squares.
abbrev pub inverted : ℕ → ℕ
inverted = on_code 256 (squares 7)
