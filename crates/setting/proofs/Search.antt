-- The search over the lists of boards: its answer is one of the test, and it has one if the test answers for the lowest of some boards.
use Rattle.std.proofs.Common.{◌≡◌, ℕ, zero, suc, ◌≤◌, Bool, List, [], ◌∷◌, ◌++◌, Some, Option, ap, ◌∙◌, subst, ⊎_elim, arith}
use Rattle.std.proofs.lemmas.List.{append_assoc}
use Rattle.std.proofs.lemmas.Bool.{cases_lt}
use Rattle.protocol.specs.Counting.{count, lowest}
use Rattle.protocol.specs.Messages.{Bytes}
use Rattle.protocol.proofs.Counting.{count-zero}
use Rattle.protocol.proofs.Optional.{Was, none_some, first_either, first_was, first_some}
use Rattle.setting.specs.Concrete.{first_answer}
use Rattle.protocol.proofs.Lowest.{lowest_before, lowest_last, last_needed}

module _ (test : List ℕ → Option Bytes) where
  pub answer_tested : (k n : ℕ) (js : List ℕ) (v : Bytes) → first_answer test k n js ≡ Some v → (is : List ℕ) × (test is ≡ Some v)
  unfolding first_answer
  answer_tested zero n js v e = (js, e)
  answer_tested (suc k) zero js v e = absurd (none_some e)
  answer_tested (suc k) (suc n) js v e =
      ⊎_elim (answer_tested k n (suc n ∷ js) v) (answer_tested (suc k) n js v)
      (first_either (first_answer test k n (suc n ∷ js)) (first_answer test (suc k) n js) v e)

  pub answer_was : (A : ℕ → Bool) (k n : ℕ) (js : List ℕ) → k ≤ count A n → Was (test (lowest k A n ++ js)) → Was (first_answer test k n js)
  unfolding first_answer
  answer_was A zero n js many was = was
  answer_was A (suc k) zero js many was = absurd (omega (arith, count-zero A))
  answer_was A (suc k) (suc n) js many was =
      ⊎_elim
      (λ few.
      let last = last_needed A k n many few in
      let same = ap (λ is. is ++ js) (lowest_last A k n last.0 last.1) ∙ append_assoc (lowest k A n) (suc n ∷ []) js in
      first_was (first_answer test k n (suc n ∷ js)) (first_answer test (suc k) n js)
      (answer_was A k n (suc n ∷ js) (omega (arith, last.0)) (subst (λ is. Was (test is)) same was)))
      (λ enough.
      let same = ap (λ is. is ++ js) (lowest_before A (suc k) n enough) in
      first_some (first_answer test k n (suc n ∷ js)) (first_answer test (suc k) n js)
      (answer_was A (suc k) n js enough (subst (λ is. Was (test is)) same was)))
      (cases_lt (count A n) (suc k))
