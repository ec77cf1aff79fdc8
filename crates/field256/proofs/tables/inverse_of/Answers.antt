-- The table is computed from the definition of the inverse.
use Rattle.std.proofs.Common.{arith}
use Rattle.field256.specs.Gf256.{times, reduced, product, squares}
use Rattle.field.proofs.Tabulated.{read}
use Rattle.field256.proofs.tables.inverse_of.Goals as goal

pub returns : goal.returns
unfolding squares product times reduced
returns c = rw c.from.ensures (read (squares 7) 256 c.args.a (omega arith))
