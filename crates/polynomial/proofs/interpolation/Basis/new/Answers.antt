-- One more entry has the row at its place, and the rows before it are as they were.
use Rattle.std.proofs.Common.{arith}
use Rattle.std.proofs.lemmas.Grind.{common_steps}
use Rattle.std.proofs.lemmas.List.{map-set}
use Rattle.polynomial.proofs.interpolation.Basis.new.Goals as goal

pub loop-j-preserved : goal.loop-j-preserved
loop-j-preserved g c = grind (arith, common_steps, map-set)
