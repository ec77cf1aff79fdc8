-- The last coefficient stays as it was.
use Rattle.std.proofs.Common.{◌≡◌, ℕ, ◌≤◌, List, [], ◌∷◌, length, refl, arith}
use Rattle.std.proofs.lemmas.Grind.{common_steps}
use Rattle.std.proofs.lemmas.List.{take-append-drop}
use Rattle.field.specs.Laws.{Arithmetic}
use Rattle.polynomial.specs.Polynomial.{lifted}
use Rattle.polynomial.proofs.differences.lift.Goals as goal

lifted_last : (R : Arithmetic) (x : ℕ) (cs : List ℕ) → length cs ≤ 1 → lifted R x cs ≡ cs
lifted_last R x [] h = refl
lifted_last R x (v ∷ []) h = refl
lifted_last R x (v ∷ c ∷ cs) h = absurd (omega arith)

pub returns : goal.returns
returns g c = grind (arith, common_steps, lifted_last, take-append-drop)
