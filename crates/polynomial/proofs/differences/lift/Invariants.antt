-- The coefficients before i - 1, and the others lifted, are all of them lifted.
use Rattle.std.proofs.Common.{◌≡◌, ◌++◌, ◌-◌, take, drop}
use Rattle.polynomial.specs.Polynomial.{lifted}
use Rattle.polynomial.proofs.differences.lift.Given as goal

abbrev pub invariant-loop-i : goal.invariant-loop-i
invariant-loop-i g l =
    let all = lifted g.F.Field.arithmetic l.x in
    take (l.i - 1) l.coefficients ++ all (drop (l.i - 1) l.coefficients) ≡ all l.initial.coefficients
