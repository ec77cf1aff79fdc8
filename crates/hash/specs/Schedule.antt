-- The compression under way, with a message schedule that is still being filled. Assumes nothing.
use Rattle.std.specs.Prelude.{◌≡◌, ℕ, ◌+◌, List, take}
use Rattle.hash.specs.declared.sha2.State.{State}
use Rattle.hash.specs.Sha256.{schedule, rounds}

-- t rounds from the hash value v have led to s, and the array w has sixteen words more of the schedule that begins with m
pub record Reached (t : ℕ) (m : List ℕ) (v s : State) (w : List ℕ) : Type 0 where
  pub words : take (t + 16) w ≡ schedule t m
  pub state : s ≡ rounds t v w
