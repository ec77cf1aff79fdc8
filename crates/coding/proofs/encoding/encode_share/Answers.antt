use Rattle.std.proofs.Common.{◌*◌, ap, ◌∙◌}
use Rattle.shape.specs.Lengths.{row_length, share_rows}
use Rattle.coding.specs.Code.{coded}
use Rattle.coding.proofs.Decoded.{shares_fix_vectors}
use Rattle.coding.proofs.Encoded.{coded-filled, when_fit}
use Rattle.coding.proofs.Sizes.{board-code}
use Rattle.coding.proofs.encoding.encode_share.Goals as goal

pub returns-clause-part : goal.returns-clause-part
returns-clause-part g c =
    let R = g.F.Field.arithmetic in
    let t = c.args.shape.faults in
    let v = c.args.vector.now in
    when_fit _ _ _ _ c.encode.ensures.answer c.encode.ensures.part
    (λ there made.
    made
    ∙ ap (λ q. coded R (row_length t) q v c.args.board) c.share_rows-rows.ensures
    ∙ coded-filled R g.met.F.Field.laws.ring (row_length t) (share_rows t) (share_rows t * row_length t) v c.args.board
    (board-code R g.met.F.Field.laws.ring t c.args.board c.args.shape.faults_most there))

pub returns-clause-fixes : goal.returns-clause-fixes
returns-clause-fixes g c = shares_fix_vectors g.F.Field.arithmetic g.F.Field.inverted g.met.F.Field.laws c.args.shape.faults c.args.shape.faults_most
