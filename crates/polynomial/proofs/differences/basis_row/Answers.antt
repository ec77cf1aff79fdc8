-- The first places are what interpolation makes of a unit.
use Rattle.std.proofs.Common.{◌≡◌, length, replicate, set, ap, ◌∙◌}
use Rattle.std.proofs.Math.Seq.{take-set-lt}
use Rattle.std.proofs.lemmas.List.{take-replicate, take_at}
use Rattle.polynomial.specs.Polynomial.{interpolated, unit}
use Rattle.polynomial.proofs.Lagrange.{unit-length}
use Rattle.polynomial.proofs.Newton.{interpolated-length}
use Rattle.polynomial.proofs.differences.basis_row.Goals as goal

pub returns : goal.returns
returns g c =
    let R = g.F.Field.arithmetic in
    let inv = g.F.Field.inverted in
    let codes = c.args.codes.now in
    let n = length codes in
    let j = c.args.j in
    let e : c.solve.new.values ≡ interpolated R inv codes (unit n j) = c.solve.ensures ∙ ap (interpolated R inv codes) (take-set-lt n (replicate 6 0) j 1 c.requires.there ∙ ap (λ l. set l j 1) (take-replicate n 6 0 c.requires.few)) in
    take_at c.solve.new.values _ n (ap length e ∙ interpolated-length R inv codes (unit n j) (unit-length n j)) ∙ e
