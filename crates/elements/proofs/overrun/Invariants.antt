use Rattle.elements.specs.Element.{Elements}
use Rattle.elements.proofs.overrun.Given as goal

abbrev pub invariant-loop-i : goal.invariant-loop-i
invariant-loop-i g l = Elements g.F.Field.arithmetic l.part l.i
