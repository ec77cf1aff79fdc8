use Rattle.std.proofs.Common.{◌≡◌}
use Rattle.hash.specs.Sha256.{hashed}
use Rattle.hash.proofs.sha2.whole_blocks.Given as goal

abbrev pub invariant-loop-block : goal.invariant-loop-block
invariant-loop-block l = l.s ≡ hashed l.block-index l.bytes
