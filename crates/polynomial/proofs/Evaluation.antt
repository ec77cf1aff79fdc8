-- Values of polynomials: they are what Horner's rule gives, they are codes, and zero coefficients at the end change nothing.
use Rattle.std.proofs.Common.{◌≡◌, ℕ, zero, suc, ◌<◌, List, [], ◌∷◌, ◌++◌, reverse, replicate, refl, ap, ◌∙◌}
use Rattle.std.specs.List.{fold}
use Rattle.std.proofs.lemmas.List.{reverse-append}
use Rattle.std.proofs.lemmas.List.Sums.{fold-append}
use Rattle.field.specs.Laws.{Arithmetic, RingLaws}
use Rattle.field.proofs.Rings.{zero_code, mul-zero}
use Rattle.polynomial.specs.Polynomial.{Codes, eval}

-- Horner's rule: the coefficients from the last on, each added to x times the value so far.
pub eval-fold : (R : Arithmetic) (row : List ℕ) (x : ℕ) → fold (λ v c. R.add c (R.mul x v)) 0 (reverse row) ≡ eval R row x
eval-fold R [] x = refl
eval-fold R (c ∷ cs) x =
    let step = λ (v c : ℕ). R.add c (R.mul x v) in
    ap (fold step 0) (reverse-append (c ∷ []) cs) ∙ fold-append step 0 (reverse cs) (c ∷ []) ∙ ap (λ v. step v c) (eval-fold R cs x)

module _ (R : Arithmetic) (L : RingLaws R) where
  pub eval_code : (p : List ℕ) (x : ℕ) → eval R p x < R.size
  eval_code [] x = zero_code R L
  eval_code (c ∷ p) x = L.sums.code c (R.mul x (eval R p x))

  pub zeros_codes : (k : ℕ) → Codes R (replicate k 0)
  zeros_codes zero = tt
  zeros_codes (suc k) = (zero_code R L, zeros_codes k)

  pub eval_zeros : (k x : ℕ) → x < R.size → eval R (replicate k 0) x ≡ 0
  eval_zeros zero x hx = refl
  eval_zeros (suc k) x hx = ap (λ y. R.add 0 (R.mul x y)) (eval_zeros k x hx) ∙ ap (R.add 0) (mul-zero R L x hx) ∙ L.add-zero 0 (zero_code R L)

  pub eval-filled : (p : List ℕ) (k x : ℕ) → x < R.size → eval R (p ++ replicate k 0) x ≡ eval R p x
  eval-filled [] k x hx = eval_zeros k x hx
  eval-filled (c ∷ p) k x hx = ap (λ y. R.add c (R.mul x y)) (eval-filled p k x hx)
