-- The laws of the field of 256 codes. Its product is linear in each factor, so they hold where they hold at the powers of x, which antt computes.
use Rattle.std.specs.Prelude.{◌≡◌, ℕ, zero, suc, ◌+◌, ◌*◌, ◌/◌, ◌%◌, ◌^◌, ◌<◌, ◌||◌, T, ◌==◌, ◌≢◌, bit_xor, nat_eq, nat_lt, refl}
use Rattle.std.proofs.Common.{ap, ◌∙◌, lit<, lit≤, eqb→eq}
use Rattle.std.specs.Int.Bits.{xor_zero_r, xor_self, xor_assoc}
use Rattle.std.proofs.lemmas.Nat.{xor_comm, xor_lt}
use Rattle.field.specs.Laws.{FieldLaws}
use Rattle.field256.specs.Gf256.{modulus, times, reduced, product, squares, arithmetic, inverted}
use Rattle.field.proofs.Codes.{field_laws}
use Rattle.field.proofs.Exhaustive.{all, all_at, all_equal, nonzero_at}
use Rattle.field256.specs.Linear.{Linear, Bilinear, identity, sum, after, bit_times, times_bit, double, shifted, agree, agree_both, bounded_both}

times_left : (n b : ℕ) → Linear (λ a. times n a b)
unfolding times
times_left zero b = λ x y. refl
times_left (suc n) b =
    sum (λ a. b % 2 * a) (λ a. times n a (b / 2) * 2) (times_bit b) (after (λ x. x * 2) (λ a. times n a (b / 2)) double (times_left n (b / 2)))

times_right : (n a : ℕ) → Linear (λ b. times n a b)
unfolding times
times_right zero a = λ x y. refl
times_right (suc n) a =
    sum (λ b. b % 2 * a) (λ b. times n a (b / 2) * 2) (bit_times a)
    (after (λ x. x * 2) (λ b. times n a (b / 2)) double (after (times n a) (λ b. b / 2) (times_right n a) (shifted 1)))

reduced_linear : (k : ℕ) → Linear (reduced k)
unfolding reduced
reduced_linear zero = identity
reduced_linear (suc k) =
    after (reduced k) (λ p. bit_xor p (p / 2 ^ (8 + k) % 2 * (modulus * 2 ^ k))) (reduced_linear k)
    (sum (λ p. p) (λ p. p / 2 ^ (8 + k) % 2 * (modulus * 2 ^ k)) identity
    (after (λ b. b % 2 * (modulus * 2 ^ k)) (λ p. p / 2 ^ (8 + k)) (bit_times (modulus * 2 ^ k)) (shifted (8 + k))))

pub bilinear : Bilinear product
unfolding product
bilinear = record {
  left = λ b. after (reduced 7) (λ a. times 8 a b) (reduced_linear 7) (times_left 8 b);
  right = λ a. after (reduced 7) (times 8 a) (reduced_linear 7) (times_right 8 a);
}

code_test : T (all 8 (λ i. all 8 (λ j. nat_lt (product (2 ^ i) (2 ^ j)) 256)))
unfolding product times reduced
code_test = tt

pub mul_code : (a b : ℕ) → a < 256 → b < 256 → product a b < 256
mul_code = bounded_both product bilinear code_test

comm_test : T (all 8 (λ i. all 8 (λ j. nat_eq (product (2 ^ i) (2 ^ j)) (product (2 ^ j) (2 ^ i)))))
unfolding product times reduced
comm_test = tt

pub mul_comm : (a b : ℕ) → a < 256 → b < 256 → product a b ≡ product b a
mul_comm = agree_both product (λ a b. product b a) bilinear (record { left = bilinear.right; right = bilinear.left }) comm_test

assoc_test : T (all 8 (λ k. all 8 (λ i. all 8 (λ j. nat_eq (product (product (2 ^ i) (2 ^ j)) (2 ^ k)) (product (2 ^ i) (product (2 ^ j) (2 ^ k)))))))
unfolding product times reduced
assoc_test = tt

pub mul_assoc : (a b c : ℕ) → a < 256 → b < 256 → c < 256 → product (product a b) c ≡ product a (product b c)
mul_assoc a b c ha hb hc =
    agree 8 (product (product a b)) (λ z. product a (product b z)) (bilinear.right (product a b)) (after (product a) (product b) (bilinear.right a) (bilinear.right b))
    (λ k hk. agree_both (λ x y. product (product x y) (2 ^ k)) (λ x y. product x (product y (2 ^ k)))
    (record {
      left = λ y. after (λ x. product x (2 ^ k)) (λ x. product x y) (bilinear.left (2 ^ k)) (bilinear.left y);
      right = λ x. after (λ y. product y (2 ^ k)) (product x) (bilinear.left (2 ^ k)) (bilinear.right x);
    })
    (record {
      left = λ y. bilinear.left (product y (2 ^ k));
      right = λ x. after (product x) (λ y. product y (2 ^ k)) (bilinear.right x) (bilinear.left (2 ^ k));
    })
    (all_at 8 (λ k. all 8 (λ i. all 8 (λ j. nat_eq (product (product (2 ^ i) (2 ^ j)) (2 ^ k)) (product (2 ^ i) (product (2 ^ j) (2 ^ k)))))) assoc_test k hk)
    a b ha hb) c hc

one-test : T (all 8 (λ i. nat_eq (product (2 ^ i) 1) (2 ^ i)))
unfolding product times reduced
one-test = tt

pub mul-one : (a : ℕ) → a < 256 → product a 1 ≡ a
mul-one = agree 8 (λ a. product a 1) (λ a. a) (bilinear.left 1) identity (all_equal 8 (λ i. product (2 ^ i) 1) (λ i. 2 ^ i) one-test)

squares_code : (n a : ℕ) → a < 256 → squares n a < 256
unfolding squares
squares_code zero a h = lit< tt
squares_code (suc n) a h =
    let s = mul_code a a h h in
    mul_code (product a a) (squares n (product a a)) s (squares_code n (product a a) s)

inverse_test : T (all 256 (λ a. (a == 0) || product a (squares 7 a) == 1))
unfolding product times reduced squares
inverse_test = tt

mul-inv : (a : ℕ) → a < 256 → (a ≢ 0) → product a (squares 7 a) ≡ 1
mul-inv a h nz = eqb→eq (product a (squares 7 a)) 1 (nonzero_at 256 (λ a. nat_eq (product a (squares 7 a)) 1) inverse_test a h nz)

inv-zero : squares 7 0 ≡ 0
unfolding product times reduced squares
inv-zero = refl

pub laws : FieldLaws arithmetic inverted
laws = field_laws 256 bit_xor bit_xor product (squares 7) (record {
  least = lit≤ tt;
  most = lit≤ tt;
  add_code = λ a b ha hb. xor_lt 8 a b ha hb;
  sub_code = λ a b ha hb. xor_lt 8 a b ha hb;
  mul_code = mul_code;
  inv_code = squares_code 7;
  add_comm = λ a b ha hb. xor_comm a b;
  add_assoc = λ a b c ha hb hc. xor_assoc a b c;
  add-zero = λ a ha. xor_zero_r a;
  sub-add = λ a b ha hb. xor_assoc a b b ∙ ap (bit_xor a) (xor_self b) ∙ xor_zero_r a;
  mul_comm = mul_comm;
  mul_assoc = mul_assoc;
  mul-one = mul-one;
  mul-add = λ a b c ha hb hc. bilinear.right a b c;
  inv-zero = inv-zero;
  mul-inv = mul-inv;
})
