use Rattle.coding.proofs.Rows.{basis_there}
use Rattle.coding.proofs.Selected.{chosen-admitted}
use Rattle.coding.proofs.chosen.Rows.new.Goals as goal

pub unwrap-basis-requires : goal.unwrap-basis-requires
unwrap-basis-requires g c =
    let R = g.F.Field.arithmetic in
    let js = c.args.chosen.boards.now in
    basis_there R g.F.Field.inverted js c.new.result c.new.ensures (chosen-admitted c.args.chosen.fragments.shape js c.args.chosen.chosen R g.met.F.Field.laws.ring)
