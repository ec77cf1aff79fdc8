-- Adding up the products from the first on gives their sum.
use Rattle.std.proofs.Common.{rules, tests, get_or, ◌∙◌}
use Rattle.std.proofs.lemmas.Iterator.{YieldsList-from_slice, YieldsList-from_zip}
use Rattle.std.proofs.lemmas.Iterator.Consumers.{fold_from_yields_List}
use Rattle.polynomial.proofs.Bases.{sum_of_products}
use Rattle.polynomial.proofs.interpolation.Basis.coefficient.Goals as goal

pub returns : goal.returns
returns g c =
    let R = g.F.Field.arithmetic in
    let ps = c.args.points.now in
    let es = c.args.self.now.entries in
    fold_from_yields_List _ (λ s q. R.add s (R.mul q.0.1 (get_or q.1.row c.args.i 0))) 0 c.fold.result c.fold.ensures.ran
    (YieldsList-from_zip (YieldsList-from_slice ps cc) (YieldsList-from_slice es cc)) (λ a x b q k. search (rules, tests))
    ∙ sum_of_products R g.met.F.Field.laws.ring c.args.i ps es
