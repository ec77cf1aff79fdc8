-- The answer goes through the points.
use Rattle.std.proofs.Common.{◌≡◌, arith}
use Rattle.std.proofs.lemmas.Grind.{common_steps}
use Rattle.polynomial.specs.Interpolation.{combined}
use Rattle.polynomial.proofs.Bases.{solves}
use Rattle.polynomial.proofs.interpolation.Basis.interpolate.Goals as goal

pub returns-then-covers-clause-through : goal.returns-then-covers-clause-through
returns-then-covers-clause-through g c =
    let R = g.F.Field.arithmetic in
    let e : c.from_fn.result ≡ combined R c.args.self.now c.args.points.now = grind (arith, common_steps) in
    solves R g.F.Field.inverted g.met.F.Field.laws c.args.self.now c.args.points.now (omega arith) c.from_fn.result e
