use Rattle.coding.proofs.Selected.{value_there}
use Rattle.coding.proofs.chosen.Rows.points.Goals as goal

pub unwrap-value-requires : goal.unwrap-value-requires
unwrap-value-requires g c =
    let chosen = c.args.self.now.chosen in
    value_there g.F.Field.arithmetic chosen.fragments.shape chosen.fragments.bytes.now chosen.fragments.long chosen.boards.now chosen.chosen
    c.args.self.now.sound c.loop-k.k c.args.i c.loop-k-test.true c.requires c.of.result.now c.of.ensures c.read_element.result c.read_element.ensures
