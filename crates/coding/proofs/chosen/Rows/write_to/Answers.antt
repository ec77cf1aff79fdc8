use Rattle.std.proofs.Common.{rules}
use Rattle.coding.specs.Choice.{row_at}
use Rattle.coding.proofs.Rows.{row_long}
use Rattle.coding.proofs.Selected.{block_long}
use Rattle.coding.proofs.chosen.Rows.write_to.Goals as goal

pub returns : goal.returns
returns g c =
    let R = g.F.Field.arithmetic in
    let inv = g.F.Field.inverted in
    let chosen = c.args.self.now.chosen in
    let s = chosen.fragments.shape in
    c.write_pieces.ensures.whole (row_at R inv chosen) (record { long = row_long R inv s _ _; left = λ i x y h l called. search rules })
    (block_long s _ chosen.chosen _ c.requires.room)
