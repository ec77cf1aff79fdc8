use Rattle.std.proofs.Common.{◌≡◌, ℕ, ◌*◌, ◌++◌, List, drop}
use Rattle.elements.specs.Pieces.{laid}
use Rattle.coding.specs.Pieced.{Leaves}
use Rattle.coding.proofs.pieces.write_pieces.Given as goal

abbrev pub invariant-loop-i : goal.invariant-loop-i
invariant-loop-i g l = (piece : ℕ → List ℕ) → Leaves g.W.Fn l.write l.size l.count piece → l.place ≡ laid piece l.i ++ drop (l.i * l.size) l.initial.place
