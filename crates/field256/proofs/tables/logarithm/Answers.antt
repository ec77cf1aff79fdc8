-- The table is computed by a search among the powers, and has the logarithm that is found so.
use Rattle.std.proofs.Common.{arith}
use mathlib.Core.Path.{subst⁻¹}
use Rattle.field256.specs.Gf256.{times, reduced, product}
use Rattle.field256.specs.Logarithms.{LogarithmEntry}
use Rattle.field.proofs.Tabulated.{read}
use Rattle.field256.proofs.Powers.{logarithm, logarithm-entry}
use Rattle.field256.proofs.tables.logarithm.Goals as goal

pub returns : goal.returns
unfolding product times reduced
returns c = rw c.from.ensures (subst⁻¹ (LogarithmEntry c.args.a) (read logarithm 256 c.args.a (omega arith)) (logarithm-entry c.args.a (omega arith)))
