-- Each round has one code less.
use Rattle.std.proofs.Common.{length}
use Rattle.polynomial.proofs.differences.+solve.Given as goal

abbrev pub decreases-solve : goal.decreases-solve
decreases-solve g l = length l.codes.now
