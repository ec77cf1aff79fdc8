use Rattle.std.proofs.Common.{◌≡◌, length, take}
use Rattle.coding.specs.Decoding.{points_of}
use Rattle.coding.proofs.chosen.Rows.points.Given as goal

abbrev pub invariant-loop-k : goal.invariant-loop-k
invariant-loop-k g l =
    let fragments = l.self.chosen.fragments in (length l.points ≡ 6) × (take l.k l.points ≡ points_of g.F.Field.arithmetic fragments.shape fragments.bytes.now (take l.k l.board-items) l.i)
