-- A test that answers no decides what does not hold.
use Rattle.std.proofs.Common.{false, Decides}
use Rattle.std.proofs.lemmas.Bool.{false≢true}

pub decided_not : (P : Type 0) → (P → ⊥) → Decides false P
decided_not P h = ((λ e. absurd (false≢true e)), (λ p. absurd (h p)))
