-- What the bytes of a frame say, or the first place in them that the table of kinds does not allow.
use Rattle.std.specs.Prelude.{◌≡◌, ℕ, ◌+◌, ◌*◌, ◌/◌, Bool, true, cond, length, take, drop, Some, None, Ok, Err, Option, Result, ◌==◌, nat_lt, slice_index}
use Rattle.field.specs.Laws.{Arithmetic, width}
use Rattle.shape.specs.declared.Shape.{Shape}
use Rattle.elements.specs.Pieces.{piece}
use Rattle.elements.specs.Element.{first_overrun}
use Rattle.kind.specs.declared.Kind.{Kind}
use Rattle.protocol.specs.Messages.{Bytes, Message, kind, sender}
use Rattle.frame.specs.declared.Frame.{Frame}
use Rattle.fault.specs.declared.FieldFault.{FieldFault}
use Rattle.fault.specs.declared.FrameFault.{FrameFault}
use Rattle.fault.specs.declared.FrameFault.TheVariants.{Torn, Field}
use Rattle.kind.specs.Numbers.{numbered}
use Rattle.layout.specs.Kinds.{is_sender, digests, bytes}
use Rattle.frame.specs.Frames.{message, vector, payload, made, encode}

-- The frame has its first m bytes, or ends too soon.
abbrev pub need : ℕ → Bytes → Result Message FrameFault → Result Message FrameFault
need m b next = cond (nat_lt (length b) m) (Err (Torn (length b))) next

-- What stands at the place is allowed, or it is wrong.
abbrev pub test : Bool → ℕ → Result Message FrameFault → Result Message FrameFault
test ok place next = cond ok next (Err (Torn place))

-- There is such a kind, or its number is wrong.
abbrev pub kinded : (Kind → Result Message FrameFault) → Option Kind → Result Message FrameFault
kinded next (Some k) = next k
kinded next None = Err (Torn 0)

-- What follows the count of digests, from place 3 on: v bytes of digests, a count of two bytes that has to be w, w bytes, and nothing more.
abbrev pub sectioned : ℕ → ℕ → Bytes → Result (Bytes × Bytes) FrameFault
sectioned v w rest =
    cond (nat_lt (length rest) (v + 2)) (Err (Torn (3 + length rest)))
    (cond (256 * slice_index (drop v rest) 0 + slice_index (drop v rest) 1 == w)
    (cond (nat_lt (length rest) (v + 2 + w)) (Err (Torn (3 + length rest)))
    (cond (length rest == v + 2 + w) (Ok (take v rest, drop (v + 2) rest)) (Err (Torn (5 + v + w)))))
    (Err (Torn (3 + v))))

-- The message of a kind from a sender, with the sections read.
abbrev pub onto : Kind → ℕ → Result (Bytes × Bytes) FrameFault → Result Message FrameFault
onto k i (Ok p) = Ok (made k i p.0 p.1)
onto k i (Err e) = Err e

-- Kind, sender and count of digests, and then the sections.
abbrev pub reads : Arithmetic → Shape → Bytes → Result Message FrameFault
reads R s b =
    need 1 b
    (kinded
    (λ k.
    need 2 b
    (test (is_sender s k (slice_index b 1)) 1
    (need 3 b (test (slice_index b 2 == digests s k) 2 (onto k (slice_index b 1) (sectioned (32 * digests s k) (bytes R s k) (drop 3 b)))))))
    (numbered (slice_index b 0)))

-- What reading answers, in the words of the protocol.
abbrev pub told : Result Frame FrameFault → Result Message FrameFault
told (Ok f) = Ok (message f)
told (Err e) = Err e

-- Whether the elements of a message are codes: the first that is not is refused at its first byte in the frame.
abbrev pub overran : ℕ → ℕ → Option ℕ → Result (Unit {0}) FieldFault
overran start w (Some i) = Err (record { place = start + i * w })
overran start w None = Ok tt

abbrev pub section : Arithmetic → Shape → Message → Bytes
section R s m = piece (bytes R s (kind m)) (payload m) 0

abbrev pub checked : Arithmetic → Shape → Message → Result (Unit {0}) FieldFault
checked R s m = overran (5 + 32 * digests s (kind m)) (width R) (first_overrun R (section R s m) (length (section R s m) / width R))

-- The layout first, and then the elements.
abbrev pub unless : Result (Unit {0}) FieldFault → Message → Result Message FrameFault
unless (Ok u) m = Ok m
unless (Err e) m = Err (Field e)

abbrev pub checking : Arithmetic → Shape → Result Message FrameFault → Result Message FrameFault
checking R s (Ok m) = unless (checked R s m) m
checking R s (Err e) = Err e

abbrev pub reads_checked : Arithmetic → Shape → Bytes → Result Message FrameFault
reads_checked R s b = checking R s (reads R s b)

-- A frame that is read writes back to its bytes.
abbrev pub WritesBack : Result Frame FrameFault → Bytes → Type 0
WritesBack (Ok f) b = encode (message f) ≡ b
WritesBack (Err e) b = Unit {0}

-- A message of a shape: its sender is one of its kind's, and its sections have their lengths.
pub record Proper (R : Arithmetic) (s : Shape) (m : Message) : Type 0 where
  pub from_sender : is_sender s (kind m) (sender m) ≡ true
  pub vector_long : length (vector m) ≡ 32 * digests s (kind m)
  pub payload_long : length (payload m) ≡ bytes R s (kind m)
