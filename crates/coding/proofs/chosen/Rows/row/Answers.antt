use Rattle.coding.proofs.Rows.{row_there, row_is}
use Rattle.coding.proofs.chosen.Rows.row.Goals as goal

pub unwrap-requires : goal.unwrap-requires
unwrap-requires g c =
    let rows = c.args.self.now in
    row_there g.F.Field.arithmetic g.F.Field.inverted g.met.F.Field.laws.ring rows.chosen.fragments.shape rows.chosen.fragments.bytes.now rows.chosen.boards.now rows.basis
    rows.chosen.chosen rows.sound rows.based c.args.i c.requires _ c.points-points.ensures c.interpolate.result c.interpolate.ensures.through

pub returns : goal.returns
returns g c =
    let rows = c.args.self.now in
    row_is g.F.Field.arithmetic g.F.Field.inverted g.met.F.Field.laws.ring rows.chosen.fragments.shape rows.chosen.fragments.bytes.now rows.chosen.boards.now rows.basis
    rows.chosen.chosen rows.sound rows.based c.args.i c.requires _ c.points-points.ensures c.interpolate.result c.interpolate.ensures.through c.unwrap.result c.unwrap.ensures
