-- The product by logarithms to the base 3: the product of 3 ^ k and 3 ^ l is 3 ^ (k + l).
use Rattle.std.proofs.Common.{◌≡◌, ℕ, zero, suc, ◌+◌, ◌<◌, sym, ap, ◌∙◌, ap₂, ⊎_elim, suc-add, zero-add, arith, lit<}
use Rattle.std.proofs.lemmas.Bool.{cases_eq}
use Rattle.field.specs.Laws.{on_codes}
use Rattle.field256.specs.Gf256.{product}
use Rattle.field256.specs.Logarithms.{power, PowerEntry, LogarithmEntry}
use Rattle.field.proofs.Codes.{within}
use Rattle.field256.specs.Linear.{zero_at}
use Rattle.field256.specs.Laws.{bilinear, mul_code, mul_comm, mul_assoc, mul-one}

power_code : (k : ℕ) → power k < 256
unfolding power
power_code zero = lit< tt
power_code (suc k) = mul_code 3 (power k) (lit< tt) (power_code k)

power-add : (k l : ℕ) → product (power k) (power l) ≡ power (k + l)
unfolding power
power-add zero l = mul_comm 1 (power l) (lit< tt) (power_code l) ∙ mul-one (power l) (power_code l) ∙ ap power (sym (zero-add l))
power-add (suc k) l =
    mul_assoc 3 (power k) (power l) (lit< tt) (power_code k) (power_code l)
    ∙ ap (product 3) (power-add k l) ∙ ap power (sym (suc-add k l))

-- The power at the sum of the logarithms is the product.
pub by_logarithms : (a b k l r : ℕ) → a < 256 → b < 256 → LogarithmEntry a k → LogarithmEntry b l → PowerEntry (k + l) r → r ≡ on_codes 256 product a b
by_logarithms a b k l r ha hb p q e =
    ⊎_elim
    (λ za. let h = p.of_zero za in e.above (omega arith) ∙ sym (rw za (zero_at (λ x. product x b) (bilinear.left b))))
    (λ na. ⊎_elim
    (λ zb. let h = q.of_zero zb in e.above (omega arith) ∙ sym (rw zb (zero_at (product a) (bilinear.right a))))
    (λ nb.
    let s = p.of_other na in
    let t = q.of_other nb in
    e.below (omega arith) ∙ sym (power-add k l) ∙ ap₂ product s.1 t.1)
    (cases_eq b 0))
    (cases_eq a 0)
    ∙ sym (within 256 product a b ha hb)
