-- The block that a design makes.
use Rattle.std.specs.Prelude.{ℕ, ◌-◌, List, ◌++◌, length, take, replicate}
use Rattle.shape.specs.declared.Shape.{Shape}
use Rattle.shape.specs.Lengths.{block_length}

-- The design, filled up with zero bytes to the K bytes of a block; nothing past them counts.
abbrev pub block_of : Shape → List ℕ → List ℕ
block_of s design = let size = block_length s.faults s.rows in take size design ++ replicate (size - length design) 0
