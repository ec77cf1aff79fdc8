-- The first element that is not a code, by a relation and by a function.
use Rattle.std.proofs.Common.{◌≡◌, ℕ, zero, suc, ◌<◌, ◌≤◌, leb, List, Some, None, Option, sym, refl, ap, ◌∙◌, inl, inr, arith}
use Rattle.std.specs.Option.{option_or}
use Rattle.std.specs.Bool.{then_some}
use Rattle.std.proofs.lemmas.Bool.{le-leb, lt-leb, cases_eq}
use Rattle.field.specs.Laws.{Arithmetic}
use Rattle.elements.specs.Element.{element, Elements, FirstOverrun, first_overrun}

module _ (R : Arithmetic) (x : List ℕ) where
  none_overrun : (n : ℕ) → Elements R x n → first_overrun R x n ≡ None
  unfolding first_overrun
  none_overrun zero codes = refl
  none_overrun (suc n) codes =
      ap (λ o. option_or o (then_some (leb R.size (element R x n)) n)) (none_overrun n (λ i h. codes i (omega arith)))
      ∙ ap (λ b. then_some b n) (lt-leb R.size (element R x n) (codes n (omega arith)))

  some_overrun : (n i : ℕ) → i < n → R.size ≤ element R x i → Elements R x i → first_overrun R x n ≡ Some i
  unfolding first_overrun
  some_overrun zero i h over codes = absurd (omega arith)
  some_overrun (suc n) i h over codes = elim (cases_eq i n) [
    | inl e ↦
        ap (λ o. option_or o (then_some (leb R.size (element R x n)) n)) (none_overrun n (λ j l. codes j (omega arith)))
        ∙ ap (λ b. then_some b n) (le-leb R.size (element R x n) (omega (arith, ap (element R x) e)))
        ∙ ap Some (sym e)
    | inr ne ↦ ap (λ o. option_or o (then_some (leb R.size (element R x n)) n)) (some_overrun n i (omega arith) over codes)
  ]

  pub overrun_is : (n : ℕ) (r : Option ℕ) → FirstOverrun R x n r → r ≡ first_overrun R x n
  overrun_is n (Some i) p = sym (some_overrun n i p.0 p.1 p.2)
  overrun_is n None p = sym (none_overrun n p)
