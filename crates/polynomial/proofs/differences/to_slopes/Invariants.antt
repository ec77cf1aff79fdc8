-- The values so far, and the slopes of the others, are the slopes of all.
use Rattle.std.proofs.Common.{◌≡◌, ◌++◌, take, drop}
use Rattle.polynomial.specs.Polynomial.{slopes}
use Rattle.polynomial.proofs.differences.to_slopes.Given as goal

abbrev pub invariant-loop-i : goal.invariant-loop-i
invariant-loop-i g l =
    let all = slopes g.F.Field.arithmetic g.F.Field.inverted l.from in
    take l.i l.values ++ all (drop l.i l.codes) (drop l.i l.values) ≡ all l.codes l.initial.values
