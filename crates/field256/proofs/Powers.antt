-- The tables of powers and of logarithms to the base 3, as the definition of the product gives them.
use Rattle.std.proofs.Common.{◌≡◌, ℕ, zero, suc, ◌+◌, ◌-◌, ◌<◌, Bool, true, false, cond, ◌||◌, T, eqb, ltb, ◌⊎◌, List, [], ◌∷◌, ◌++◌, length, get_or, replicate, sym, refl, ap, ◌∙◌, inl, inr, ⊎_elim, add-zero, zero-add, arith, ltb→lt}
use lib.ListN.{get_or-replicate}
use Rattle.std.proofs.lemmas.List.{get_or_append_left, get_or-append_right}
use Rattle.std.proofs.lemmas.Bool.{eqb-true}
use Rattle.field256.specs.Gf256.{times, reduced, product}
use Rattle.field256.specs.Logarithms.{power, PowerEntry, LogarithmEntry}
use Rattle.field.proofs.Exhaustive.{all, nonzero_at}

-- The products of p with 1, 3, 3 ^ 2 and so on, n of them.
abbrev powers : ℕ → ℕ → List ℕ
powers zero p = []
powers (suc n) p = p ∷ powers n (product 3 p)

length-powers : (n p : ℕ) → length (powers n p) ≡ n
length-powers zero p = refl
length-powers (suc n) p = ap suc (length-powers n (product 3 p))

power_at : (n i k : ℕ) → k < n → get_or (powers n (power i)) k 0 ≡ power (i + k)
unfolding power
power_at zero i k h = absurd (omega arith)
power_at (suc n) i zero h = ap power (sym (add-zero i))
power_at (suc n) i (suc k) h = power_at n (suc i) k (omega arith) ∙ ap power (omega arith)

-- The table of powers: they begin again at 255, and zeros stand from 510 on.
abbrev power_table : List ℕ
power_table = powers 510 1 ++ replicate 511 0

pub power-entry : (k : ℕ) → k < 1021 → PowerEntry k (get_or power_table k 0)
unfolding power
power-entry k h = record {
  below = λ l.
      let l' : k < length (powers 510 1) = rw length-powers l in
      get_or_append_left (powers 510 1) (replicate 511 0) 0 k l' ∙ power_at 510 0 k l ∙ ap power (zero-add k);
  above = λ l.
      get_or-append_right (powers 510 1) (replicate 511 0) 510 k 0 (length-powers 510 1) l ∙ get_or-replicate 511 (k - 510) 0 0 (omega arith);
}

-- The place of a in a list, counted from k, or 510 where it is not there.
abbrev place : List ℕ → ℕ → ℕ → ℕ
place [] k a = 510
place (p ∷ ps) k a = cond (eqb p a) k (place ps (suc k) a)

-- The logarithm of a, found by trying each power in turn.
abbrev pub logarithm : ℕ → ℕ
logarithm = place (powers 255 1) 0

-- Either r is a logarithm of a that is below n, or none was found.
abbrev Found : ℕ → ℕ → ℕ → Type 0
Found n a r = (r ≡ 510) ⊎ ((r < n) × (power r ≡ a))

found : (n k a : ℕ) → Found (k + n) a (place (powers n (power k)) k a)
unfolding power
found zero k a = inl refl
found (suc n) k a = go (eqb (power k) a) refl (place (powers n (power (suc k))) (suc k) a) (found n (suc k) a)
  where
    go : (b : Bool) → eqb (power k) a ≡ b → (r : ℕ) → Found (suc k + n) a r → Found (k + suc n) a (cond b k r)
    go true e r h = inr (omega arith, eqb-true (power k) a e)
    go false e r (inl h) = inl h
    go false e r (inr h) = inr (omega arith, h.1)

found_logarithm : (a : ℕ) → Found 255 a (logarithm a)
unfolding power
found_logarithm = found 255 0

logarithm-zero : logarithm 0 ≡ 510
unfolding product times reduced
logarithm-zero = refl

-- Every code but 0 is a power of 3.
all_found : T (all 256 (λ a. eqb a 0 || ltb (logarithm a) 510))
unfolding product times reduced
all_found = tt

pub logarithm-entry : (a : ℕ) → a < 256 → LogarithmEntry a (logarithm a)
logarithm-entry a ha = record {
  most = ⊎_elim (λ e. omega arith) (λ h. omega arith) (found_logarithm a);
  of_zero = λ z. ap logarithm z ∙ logarithm-zero;
  of_other = λ nz.
      let l : logarithm a < 510 = ltb→lt (logarithm a) 510 (nonzero_at 256 (λ a. ltb (logarithm a) 510) all_found a ha nz) in
      ⊎_elim (λ e. absurd (omega arith)) (λ h. h) (found_logarithm a);
}
