use Rattle.std.proofs.Common.{◌≡◌, take}
use Rattle.coding.specs.Choice.{row_at}
use Rattle.coding.proofs.chosen.Rows.write_row.Given as goal

abbrev pub invariant-loop-k : goal.invariant-loop-k
invariant-loop-k g l = take l.k l.part ≡ take l.k (row_at g.F.Field.arithmetic g.F.Field.inverted l.self.chosen l.fn.i)
