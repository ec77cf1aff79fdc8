-- The table is computed from the definition of the inverse, and so is the inverse of 256.
use mathlib.Core.Path.{◌≡◌, refl, ◌∙◌}
use native.Mathlib.Omega.{arith}
use Rattle.field257.specs.Gf257.{reciprocal}
use Rattle.field.proofs.Tabulated.{read}
use Rattle.field257.proofs.inverse_of.Goals as goal

pub returns-then-a : goal.returns-then-a
unfolding reciprocal
returns-then-a c = c.from-then-a.ensures ∙ rw c.from.ensures (read reciprocal 256 c.args.a c.if-a.true)

pub returns-else-a : goal.returns-else-a
unfolding reciprocal
returns-else-a c = let e : c.args.a ≡ 256 = omega arith in rw e refl
