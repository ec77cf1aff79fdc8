-- A kind's number is its own.
use Rattle.std.proofs.Common.{◌≡◌, ℕ, Some, arith}
use Rattle.std.proofs.lemmas.Bool.Decides.{nat_tests}
use Rattle.kind.specs.declared.Kind.{Kind}
use Rattle.kind.specs.Numbers.{number, numbered}

-- The kind of a kind's number is that kind,
pub numbered-number : (k : Kind) → numbered (number k) ≡ Some k
numbered-number k = grind arith

-- and a number of which there is a kind is that kind's.
pub number-numbered : (n : ℕ) (k : Kind) → numbered n ≡ Some k → number k ≡ n
number-numbered n k h = grind (arith, nat_tests)
