-- Where there are as many points as codes, comparing them one by one compares the lists.
use Rattle.std.proofs.Common.{nat_eq, take, rules, tests, ◌∙◌, arith}
use Rattle.std.proofs.lemmas.Iterator.{YieldsList-from_slice, YieldsList-from_zip}
use Rattle.std.proofs.lemmas.Iterator.Search.{all_from_yields_List}
use Rattle.polynomial.proofs.Bases.{same_codes_by_pairs}
use Rattle.polynomial.proofs.interpolation.Basis.covers.Goals as goal

pub returns-then-points-entries : goal.returns-then-points-entries
returns-then-points-entries c =
    let ps = c.args.points.now in
    let es = take c.args.self.now.count c.args.self.now.entries in
    all_from_yields_List (λ q. nat_eq q.0.0 q.1.code) c.all.new.self _ c.all.result c.all.ensures.ran
    (YieldsList-from_zip (YieldsList-from_slice ps cc) (YieldsList-from_slice es cc)) (λ x b q k. search (rules, tests))
    ∙ same_codes_by_pairs ps es (omega arith)
