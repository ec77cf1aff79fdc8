-- Elements of one byte or two, read and written in place.
use Rattle.std.proofs.Common.{◌≡◌, ℕ, zero, suc, ◌+◌, ◌/◌, ◌%◌, ◌<◌, cond, eqb, ◌⊎◌, [], ◌∷◌, length, refl, ap, ◌∙◌, inl, inr, ⊎_elim, add-one, arith}
use Rattle.std.proofs.lemmas.List.{length-append}
use Rattle.std.proofs.lemmas.Bool.{cases_Bool, eqb-true}
use Rattle.field.specs.Laws.{Arithmetic, RingLaws, width}
use Rattle.elements.specs.Numbers.{written, number}

-- An element has one byte, and then the codes are the bytes, or two.
pub widths : (R : Arithmetic) → ((width R ≡ 1) × (R.size ≡ 256)) ⊎ (width R ≡ 2)
widths R = ⊎_elim
    (λ e. inl (ap (λ b. cond b 1 2) e, eqb-true R.size 256 e))
    (λ e. inr (ap (λ b. cond b 1 2) e))
    (cases_Bool (eqb R.size 256))

pub written-length : (w v : ℕ) → length (written w v) ≡ w
written-length zero v = refl
written-length (suc w) v = length-append (written w (v / 256)) (v % 256 ∷ []) ∙ ap (λ n. n + 1) (written-length w (v / 256)) ∙ add-one w

-- What is written reads back.
pub number-written : (R : Arithmetic) (L : RingLaws R) (v : ℕ) → v < R.size → number (written (width R) v) ≡ v
number-written R L v h = ⊎_elim
    (λ p. let small : v < 256 = omega (arith, p.1) in ap (λ w. number (written w v)) p.0 ∙ omega arith)
    (λ e. let small : v < 65536 = omega (arith, L.most) in ap (λ w. number (written w v)) e ∙ omega arith)
    (widths R)
