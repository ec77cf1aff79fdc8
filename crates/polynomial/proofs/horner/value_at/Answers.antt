-- The fold from the last coefficient on is Horner's rule.
use Rattle.std.proofs.Common.{◌≡◌, rules, reverse, ◌∙◌}
use Rattle.std.proofs.iter.runs.Made.{chains}
use Rattle.std.specs.List.{fold}
use Rattle.polynomial.proofs.Evaluation.{eval-fold}
use Rattle.polynomial.proofs.horner.value_at.Goals as goal

pub returns : goal.returns
returns g c =
    let R = g.F.Field.arithmetic in
    let x = c.args.x in
    let e : c.rfold.result ≡ fold (λ v k. R.add k (R.mul x v)) 0 (reverse c.args.row.now) = search (rules, chains) in
    e ∙ eval-fold R c.args.row.now x
