-- The laws of the field of 257 codes: those of numbers, with remainders taken anywhere, and that of the inverse by a test of each code.
use Rattle.std.specs.Prelude.{◌≡◌, refl, ◌||◌, ℕ, ◌+◌, ◌*◌, ◌/◌, ◌%◌, ◌^◌, ◌<◌, T, eqb}
use Rattle.std.proofs.Common.{sym, ap, ◌∙◌, mul_comm, mul_assoc, mul-add, mul-one, mod-lt, mod-eq_of_lt, arith, lit<, lit≤, eqb→eq}
use Rattle.std.proofs.Math.Nat.{mod-add-div', add-mul-mod_self_right, add-mod}
use Rattle.field.specs.Laws.{FieldLaws}
use Rattle.field257.specs.Gf257.{plus, minus, times, reciprocal, arithmetic, inverted}
use Rattle.field.proofs.Codes.{field_laws}
use Rattle.field.proofs.Exhaustive.{all, nonzero_at}

mul-mod : (a n m : ℕ) → a * (n % m) % m ≡ a * n % m
mul-mod a n m =
    sym (ap (λ x. a * x % m) (sym (mod-add-div' n m))
    ∙ ap (λ x. x % m) (mul-add a (n % m) (n / m * m) ∙ ap (λ x. a * (n % m) + x) (sym (mul_assoc a (n / m) m)))
    ∙ add-mul-mod_self_right (a * (n % m)) (a * (n / m)) m)

mod-mul : (a n m : ℕ) → (n % m) * a % m ≡ n * a % m
mod-mul a n m = ap (λ x. x % m) (mul_comm (n % m) a) ∙ mul-mod a n m ∙ ap (λ x. x % m) (mul_comm a n)

times_assoc : (a b c : ℕ) → times (times a b) c ≡ times a (times b c)
times_assoc a b c = mod-mul c (a * b) 257 ∙ ap (λ x. x % 257) (mul_assoc a b c) ∙ sym (mul-mod a (b * c) 257)

times-plus : (a b c : ℕ) → times a (plus b c) ≡ plus (times a b) (times a c)
times-plus a b c = mul-mod a (b + c) 257 ∙ ap (λ x. x % 257) (mul-add a b c) ∙ add-mod (a * b) (a * c) 257

inverse_test : T (all 257 (λ a. eqb a 0 || eqb (times a (reciprocal a)) 1))
unfolding reciprocal
inverse_test = tt

mul-inv : (a : ℕ) → a < 257 → (a ≡ 0 → ⊥) → times a (reciprocal a) ≡ 1
mul-inv a h nz = eqb→eq (times a (reciprocal a)) 1 (nonzero_at 257 (λ a. eqb (times a (reciprocal a)) 1) inverse_test a h nz)

inv_code : (a : ℕ) → a < 257 → reciprocal a < 257
unfolding reciprocal
inv_code a h = mod-lt (a ^ 255) (lit< tt)

inv-zero : reciprocal 0 ≡ 0
unfolding reciprocal
inv-zero = refl

pub laws : FieldLaws arithmetic inverted
laws = field_laws 257 plus minus times reciprocal (record {
  least = lit≤ tt;
  most = lit≤ tt;
  add_code = λ a b ha hb. omega arith;
  sub_code = λ a b ha hb. omega arith;
  mul_code = λ a b ha hb. mod-lt (a * b) (lit< tt);
  inv_code = inv_code;
  add_comm = λ a b ha hb. omega arith;
  add_assoc = λ a b c ha hb hc. omega arith;
  add-zero = λ a ha. omega arith;
  sub-add = λ a b ha hb. omega arith;
  mul_comm = λ a b ha hb. ap (λ x. x % 257) (mul_comm a b);
  mul_assoc = λ a b c ha hb hc. times_assoc a b c;
  mul-one = λ a ha. ap (λ x. x % 257) (mul-one a) ∙ mod-eq_of_lt ha;
  mul-add = λ a b c ha hb hc. times-plus a b c;
  inv-zero = inv-zero;
  mul-inv = mul-inv;
})
