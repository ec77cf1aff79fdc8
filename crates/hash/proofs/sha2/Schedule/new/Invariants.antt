use Rattle.std.proofs.Common.{◌≡◌, length, take}
use Rattle.hash.proofs.Blocks.{first_words}
use Rattle.hash.proofs.sha2.Schedule.new.Given as goal

abbrev pub invariant-loop-t : goal.invariant-loop-t
invariant-loop-t l = (length l.words ≡ 64) × (take l.t l.words ≡ first_words l.block l.t)
