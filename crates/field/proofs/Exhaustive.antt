-- A test at each number below a bound: antt computes it at once, and each number is then known to pass.
use Rattle.std.proofs.Common.{◌≡◌, ℕ, zero, suc, ◌<◌, Bool, true, false, ◌&&◌, ◌||◌, T, eqb, refl, ⊎_elim, arith, eqb→eq}
use Rattle.std.proofs.lemmas.Bool.{cases_lt}

abbrev pub all : ℕ → (ℕ → Bool) → Bool
all zero f = true
all (suc n) f = f n && all n f

pub all_at : (n : ℕ) (f : ℕ → Bool) → T (all n f) → (i : ℕ) → i < n → T (f i)
all_at zero f t i h = absurd (omega arith)
all_at (suc n) f t i h = go (f n) refl t (λ u l. all_at n f u i l)
  where
    go : (b : Bool) → f n ≡ b → T (b && all n f) → (T (all n f) → i < n → T (f i)) → T (f i)
    go true e u rest = ⊎_elim (λ l. rest u l) (λ l. let k : i ≡ n = omega arith in rw (k, e) tt) (cases_lt i n)
    go false e u rest = absurd u

-- Two functions that agree at each number below n.
pub all_equal : (n : ℕ) (f g : ℕ → ℕ) → T (all n (λ i. eqb (f i) (g i))) → (i : ℕ) → i < n → f i ≡ g i
all_equal n f g t i h = eqb→eq (f i) (g i) (all_at n (λ i. eqb (f i) (g i)) t i h)

-- A test at each number below n but 0.
pub nonzero_at : (n : ℕ) (f : ℕ → Bool) → T (all n (λ i. eqb i 0 || f i)) → (i : ℕ) → i < n → (i ≡ 0 → ⊥) → T (f i)
nonzero_at n f t i h nz = go (eqb i 0) (λ u. nz (eqb→eq i 0 u)) (all_at n (λ i. eqb i 0 || f i) t i h)
  where
    go : (z : Bool) → (T z → ⊥) → T (z || f i) → T (f i)
    go true no_zero u = absurd (no_zero tt)
    go false no_zero u = u
