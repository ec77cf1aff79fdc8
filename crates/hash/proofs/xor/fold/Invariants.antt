use Rattle.std.proofs.Common.{◌≡◌, ℕ, ◌<◌, get_or}
use Rattle.hash.specs.Fold.{column}
use Rattle.hash.proofs.xor.fold.Given as goal

abbrev pub invariant-loop-piece : goal.invariant-loop-piece
invariant-loop-piece l = (i : ℕ) → i < 32 → get_or l.sum i 0 ≡ column l.bytes l.piece-index i
