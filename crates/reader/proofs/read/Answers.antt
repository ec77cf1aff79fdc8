use Rattle.std.proofs.Common.{ap, ◌∙◌, arith}
use Rattle.frame.specs.Frames.{encode}
use Rattle.frame.proofs.Turns.{writes_back}
use Rattle.reader.proofs.read.Goals as goal

pub returns-clause-back : goal.returns-clause-back
returns-clause-back g c =
    let l = c.in_ok-layout.layout in
    ap encode c.frame_of.ensures
    ∙ writes_back g.F.Field.arithmetic l.shape c.args.frame.now l.kind c.in_ok-layout.sender c.in_ok-layout.rest.now c.in_ok-vector.vector.now c.in_ok-vector.payload.now
    c.in_ok-layout.ensures.1 c.in_ok-vector.ensures (λ j. omega (arith, c.type_inv.frame j))
