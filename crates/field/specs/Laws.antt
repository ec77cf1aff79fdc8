-- What a field of q codes is. The codes are the numbers below q; an operation that is given anything else answers 0.
use Rattle.std.specs.Prelude.{◌≡◌, ℕ, ◌<◌, ◌≤◌, cond, ◌&&◌, ◌==◌, ◌≢◌, nat_lt}

-- How many codes there are, and their sum, difference and product.
pub record Arithmetic : Type 0 where
  pub size : ℕ
  pub add : ℕ → ℕ → ℕ
  pub sub : ℕ → ℕ → ℕ
  pub mul : ℕ → ℕ → ℕ

-- The bytes of an element: one where the codes are the bytes, otherwise two.
abbrev pub width : Arithmetic → ℕ
width R = cond (R.size == 256) 1 2

-- An operation on the codes below q: it answers a code, and 0 unless both arguments are codes.
pub record Operation (q : ℕ) (op : ℕ → ℕ → ℕ) : Type 0 where
  pub code : (a b : ℕ) → op a b < q
  pub off_left : (a b : ℕ) → q ≤ a → op a b ≡ 0
  pub off_right : (a b : ℕ) → q ≤ b → op a b ≡ 0

-- The laws of sum, difference and product: those of a commutative ring.
pub record RingLaws (R : Arithmetic) : Type 0 where
  pub least : 256 ≤ R.size
  pub most : R.size ≤ 65536
  pub sums : Operation R.size R.add
  pub differences : Operation R.size R.sub
  pub products : Operation R.size R.mul
  pub add_comm : (a b : ℕ) → a < R.size → b < R.size → R.add a b ≡ R.add b a
  pub add_assoc : (a b c : ℕ) → a < R.size → b < R.size → c < R.size → R.add (R.add a b) c ≡ R.add a (R.add b c)
  pub add-zero : (a : ℕ) → a < R.size → R.add a 0 ≡ a
  pub sub-add : (a b : ℕ) → a < R.size → b < R.size → R.add (R.sub a b) b ≡ a
  pub mul_comm : (a b : ℕ) → a < R.size → b < R.size → R.mul a b ≡ R.mul b a
  pub mul_assoc : (a b c : ℕ) → a < R.size → b < R.size → c < R.size → R.mul (R.mul a b) c ≡ R.mul a (R.mul b c)
  pub mul-one : (a : ℕ) → a < R.size → R.mul a 1 ≡ a
  pub mul-add : (a b c : ℕ) → a < R.size → b < R.size → c < R.size → R.mul a (R.add b c) ≡ R.add (R.mul a b) (R.mul a c)

-- The laws of a field: those of a ring, and every code but 0 has an inverse.
pub record FieldLaws (R : Arithmetic) (inv : ℕ → ℕ) : Type 0 where
  pub ring : RingLaws R
  pub inv_code : (a : ℕ) → inv a < R.size
  pub inv_off : (a : ℕ) → R.size ≤ a → inv a ≡ 0
  pub inv-zero : inv 0 ≡ 0
  pub mul-inv : (a : ℕ) → a < R.size → (a ≢ 0) → R.mul a (inv a) ≡ 1

-- An operation made to answer 0 where an argument is not a code below q.
abbrev pub on_codes : ℕ → (ℕ → ℕ → ℕ) → ℕ → ℕ → ℕ
on_codes q op a b = cond (nat_lt a q && nat_lt b q) (op a b) 0

abbrev pub on_code : ℕ → (ℕ → ℕ) → ℕ → ℕ
on_code q op a = cond (nat_lt a q) (op a) 0
