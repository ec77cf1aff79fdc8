use Rattle.std.proofs.Common.{refl, arith, rules}
use borrow.Author.Tests.{tests}
use Rattle.std.proofs.lemmas.Iterator.{cases_from_all, YieldsList-from_range}
use Rattle.hash.specs.Bytes.{Bytes}
use Rattle.coding.specs.Decoding.{row_coefficients}
use Rattle.coding.proofs.Rows.{rows_decided}
use Rattle.coding.proofs.chosen.Rows.are_bytes.Goals as goal

pub returns : goal.returns
returns g c =
    let chosen = c.args.self.now.chosen in
    let R = g.F.Field.arithmetic in
    let inv = g.F.Field.inverted in
    let s = chosen.fragments.shape in
    let xs = chosen.fragments.bytes.now in
    let js = chosen.boards.now in
    rows_decided R inv s xs js c.all.result
    (cases_from_all _ _ _ (λ i. Bytes (row_coefficients R inv s xs js i)) (λ i. Bytes (row_coefficients R inv s xs js i) → ⊥) c.all.ensures.ran (YieldsList-from_range 0 s.rows s.rows refl (omega arith))
    (λ x q k. search (rules, tests)) (λ x q k. search (rules, tests)))
