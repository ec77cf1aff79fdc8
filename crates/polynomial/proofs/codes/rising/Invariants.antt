-- Whether all codes rise is whether the rest does.
use Rattle.std.proofs.Common.{◌≡◌, drop}
use Rattle.polynomial.specs.Interpolation.{rising}
use Rattle.polynomial.proofs.codes.rising.Given as goal

abbrev pub invariant-loop-code : goal.invariant-loop-code
invariant-loop-code l = rising l.least l.high (drop l.code-index l.codes) ≡ rising l.low l.high l.codes
