-- The front of a frame, whose sections are still to be read.
use Rattle.std.specs.Prelude.{◌≡◌, ℕ, ◌≤◌, true, length, drop, Some, slice_index}
use Rattle.shape.specs.declared.Shape.{Shape}
use Rattle.kind.specs.declared.Kind.{Kind}
use Rattle.protocol.specs.Messages.{Bytes}
use Rattle.kind.specs.Numbers.{numbered}
use Rattle.layout.specs.Kinds.{is_sender, digests}

-- Kind, sender and count of digests of a frame are allowed, and something may follow them.
pub record Front (s : Shape) (b : Bytes) (k : Kind) (i : ℕ) (rest : Bytes) : Type 0 where
  pub long : 3 ≤ length b
  pub kind_is : numbered (slice_index b 0) ≡ Some k
  pub sender_is : i ≡ slice_index b 1
  pub sender_ok : is_sender s k (slice_index b 1) ≡ true
  pub count_ok : slice_index b 2 ≡ digests s k
  pub rest_is : rest ≡ drop 3 b
