use Rattle.std.proofs.Common.{ℕ, ◌*◌, sym, ap, ◌∙◌, rules}
use Rattle.field.specs.Laws.{width}
use Rattle.polynomial.specs.Polynomial.{eval}
use Rattle.polynomial.proofs.Evaluation.{eval_code}
use Rattle.elements.specs.Pieces.{piece}
use Rattle.elements.specs.Numbers.{written}
use Rattle.elements.proofs.Written.{written-length}
use Rattle.coding.proofs.Encoded.{element-put}
use Rattle.coding.proofs.encoding.encode_rows.Goals as goal

pub returns : goal.returns
returns g c =
    let R = g.F.Field.arithmetic in
    let value : ℕ → ℕ = λ i. eval R (piece c.args.k c.args.source.now i) c.args.code in
    let w = c.WIDTH.ensures ∙ g.met.F.Field.width_law in
    c.write_pieces.ensures.whole (λ i. written (width R) (value i)) (record {
      long = λ i. written-length (width R) (value i) ∙ sym w;
      left = λ i x y h l called.
          let put = element-put R (value i) x.now y.now in
          let long = l ∙ w in
          let code = eval_code R g.met.F.Field.laws.ring (piece c.args.k c.args.source.now i) c.args.code in
          search rules;
    })
    (c.requires ∙ ap (λ w. c.args.rows * w) (sym w))
