-- Linear maps of polynomials over the field of two elements, whose sum is the exclusive or: each is known from its values at the powers of x.
use Rattle.std.specs.Prelude.{◌≡◌, ℕ, zero, suc, ◌*◌, ◌/◌, ◌%◌, ◌^◌, ◌<◌, T, ◌⊎◌, bit_xor, nat_eq, nat_lt, refl}
use Rattle.std.proofs.Common.{sym, ap, ap₂, ◌∙◌, subst, inl, inr, zero-mul, one-mul, add-zero, pow-suc, arith, lit<, ltb→lt, pow_pos}
use Rattle.std.specs.Int.Bits.{xor_zero_r, xor_self, xor_assoc, xor_shifted}
use Rattle.std.proofs.lemmas.Nat.{xor_comm, xor_block, xor_shr, xor_mod, xor_lt}
use Rattle.field.proofs.Exhaustive.{all, all_at, all_equal}

abbrev pub Linear : (ℕ → ℕ) → Type 0
Linear f = (a b : ℕ) → f (bit_xor a b) ≡ bit_xor (f a) (f b)

pub identity : Linear (λ a. a)
identity a b = refl

exchange : (a b c d : ℕ) → bit_xor (bit_xor a b) (bit_xor c d) ≡ bit_xor (bit_xor a c) (bit_xor b d)
exchange a b c d =
    xor_assoc a b (bit_xor c d)
    ∙ ap (bit_xor a) (sym (xor_assoc b c d) ∙ ap (λ x. bit_xor x d) (xor_comm b c) ∙ xor_assoc c b d)
    ∙ sym (xor_assoc a c (bit_xor b d))

pub sum : (f g : ℕ → ℕ) → Linear f → Linear g → Linear (λ a. bit_xor (f a) (g a))
sum f g hf hg a b = ap₂ bit_xor (hf a b) (hg a b) ∙ exchange (f a) (f b) (g a) (g b)

pub after : (f g : ℕ → ℕ) → Linear f → Linear g → Linear (λ a. f (g a))
after f g hf hg a b = ap f (hg a b) ∙ hf (g a) (g b)

bit : (n : ℕ) → (n % 2 ≡ 0) ⊎ (n % 2 ≡ 1)
bit n = go (n % 2) (omega arith)
  where
    go : (m : ℕ) → m < 2 → (m ≡ 0) ⊎ (m ≡ 1)
    go zero h = inl refl
    go (suc zero) h = inr refl
    go (suc (suc m)) h = absurd (omega arith)

scaled : (c s t : ℕ) → (s ≡ 0) ⊎ (s ≡ 1) → (t ≡ 0) ⊎ (t ≡ 1) → bit_xor s t * c ≡ bit_xor (s * c) (t * c)
scaled c s t (inl e) (inl f) = rw (e, f, zero-mul) refl
scaled c s t (inl e) (inr f) = rw (e, f, zero-mul, one-mul) refl
scaled c s t (inr e) (inl f) = rw (e, f, one-mul, zero-mul) (sym (xor_zero_r c))
scaled c s t (inr e) (inr f) = rw (e, f, one-mul) (zero-mul c ∙ sym (xor_self c))

-- The lowest bit of the argument, times c.
pub bit_times : (c : ℕ) → Linear (λ b. b % 2 * c)
bit_times c a b = ap (λ x. x * c) (xor_mod a b 1) ∙ scaled c (a % 2) (b % 2) (bit a) (bit b)

-- The lowest bit of b, times the argument.
pub times_bit : (b : ℕ) → Linear (λ a. b % 2 * a)
times_bit b x y = go (b % 2) (bit b)
  where
    go : (s : ℕ) → (s ≡ 0) ⊎ (s ≡ 1) → s * bit_xor x y ≡ bit_xor (s * x) (s * y)
    go s (inl e) = simp (e, zero-mul)
    go s (inr e) = simp (e, one-mul)

pub double : Linear (λ a. a * 2)
double a b = sym (simp add-zero at (xor_block 1 a b 0 0 (lit< tt) (lit< tt)))

pub shifted : (k : ℕ) → Linear (λ a. a / 2 ^ k)
shifted k a b = xor_shr a b k

pub zero_at : (f : ℕ → ℕ) → Linear f → f 0 ≡ 0
zero_at f hf = hf 0 0 ∙ xor_self (f 0)

-- A number is the exclusive or of its upper bits and its lowest bit.
parts : (a : ℕ) → bit_xor (a / 2 * 2) (a % 2) ≡ a
parts a = xor_shifted (a / 2) 1 (a % 2) (omega arith) ∙ omega arith

-- Linear maps that agree at the powers of x below x ^ n agree at each polynomial of degree below n.
pub agree : (n : ℕ) (f g : ℕ → ℕ) → Linear f → Linear g → ((i : ℕ) → i < n → f (2 ^ i) ≡ g (2 ^ i)) → (a : ℕ) → a < 2 ^ n → f a ≡ g a
agree zero f g hf hg at a h =
    let z : a ≡ 0 = omega arith in
    rw z (zero_at f hf ∙ sym (zero_at g hg))
agree (suc n) f g hf hg at a h =
    let high : f (a / 2 * 2) ≡ g (a / 2 * 2) =
    agree n (λ x. f (x * 2)) (λ x. g (x * 2)) (after f (λ x. x * 2) hf double) (after g (λ x. x * 2) hg double)
    (λ i hi. ap f (sym (pow-suc 2 i)) ∙ at (suc i) (omega arith) ∙ ap g (pow-suc 2 i)) (a / 2) (omega (arith, pow-suc 2 n)) in
    ap f (sym (parts a)) ∙ hf (a / 2 * 2) (a % 2) ∙ ap₂ bit_xor high (low (a % 2) (bit a)) ∙ sym (hg (a / 2 * 2) (a % 2)) ∙ ap g (parts a)
  where
    low : (s : ℕ) → (s ≡ 0) ⊎ (s ≡ 1) → f s ≡ g s
    low s (inl e) = rw e (zero_at f hf ∙ sym (zero_at g hg))
    low s (inr e) = rw e (at 0 (omega arith))

-- A linear map that stays below 2 ^ k at those powers of x stays below it at each such polynomial.
pub bounded : (k n : ℕ) (f : ℕ → ℕ) → Linear f → ((i : ℕ) → i < n → f (2 ^ i) < 2 ^ k) → (a : ℕ) → a < 2 ^ n → f a < 2 ^ k
bounded k zero f hf at a h =
    let z : a ≡ 0 = omega arith in
    rw (z, zero_at f hf) (pow_pos k)
bounded k (suc n) f hf at a h =
    let high : f (a / 2 * 2) < 2 ^ k =
    bounded k n (λ x. f (x * 2)) (after f (λ x. x * 2) hf double)
    (λ i hi. subst (λ x. f x < 2 ^ k) (pow-suc 2 i) (at (suc i) (omega arith))) (a / 2) (omega (arith, pow-suc 2 n)) in
    subst (λ x. x < 2 ^ k) (sym (hf (a / 2 * 2) (a % 2)) ∙ ap f (parts a)) (xor_lt k (f (a / 2 * 2)) (f (a % 2)) high (low (a % 2) (bit a)))
  where
    low : (s : ℕ) → (s ≡ 0) ⊎ (s ≡ 1) → f s < 2 ^ k
    low s (inl e) = rw (e, zero_at f hf) (pow_pos k)
    low s (inr e) = rw e (at 0 (omega arith))

-- An operation that is linear in each argument.
pub record Bilinear (f : ℕ → ℕ → ℕ) : Type 0 where
  pub left : (b : ℕ) → Linear (λ a. f a b)
  pub right : (a : ℕ) → Linear (f a)

-- Two such operations agree on codes if they agree at the powers of x, which is a test.
pub agree_both : (f g : ℕ → ℕ → ℕ) → Bilinear f → Bilinear g →
    T (all 8 (λ i. all 8 (λ j. nat_eq (f (2 ^ i) (2 ^ j)) (g (2 ^ i) (2 ^ j))))) → (a b : ℕ) → a < 256 → b < 256 → f a b ≡ g a b
agree_both f g hf hg t a b ha hb =
    agree 8 (λ x. f x b) (λ x. g x b) (hf.left b) (hg.left b)
    (λ i hi. agree 8 (f (2 ^ i)) (g (2 ^ i)) (hf.right (2 ^ i)) (hg.right (2 ^ i))
    (all_equal 8 (λ j. f (2 ^ i) (2 ^ j)) (λ j. g (2 ^ i) (2 ^ j))
    (all_at 8 (λ i. all 8 (λ j. nat_eq (f (2 ^ i) (2 ^ j)) (g (2 ^ i) (2 ^ j)))) t i hi)) b hb) a ha

-- Such an operation answers a code to codes if it does to the powers of x.
pub bounded_both : (f : ℕ → ℕ → ℕ) → Bilinear f → T (all 8 (λ i. all 8 (λ j. nat_lt (f (2 ^ i) (2 ^ j)) 256))) → (a b : ℕ) → a < 256 → b < 256 → f a b < 256
bounded_both f hf t a b ha hb =
    bounded 8 8 (λ x. f x b) (hf.left b)
    (λ i hi. bounded 8 8 (f (2 ^ i)) (hf.right (2 ^ i))
    (λ j hj. ltb→lt (f (2 ^ i) (2 ^ j)) 256
    (all_at 8 (λ j. nat_lt (f (2 ^ i) (2 ^ j)) 256) (all_at 8 (λ i. all 8 (λ j. nat_lt (f (2 ^ i) (2 ^ j)) 256)) t i hi) j hj)) b hb) a ha
