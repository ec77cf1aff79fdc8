-- The message that a frame says, and the bytes of a message.
use Rattle.std.specs.Prelude.{◌≡◌, ℕ, ◌/◌, ◌%◌, cond, [], ◌∷◌, ◌++◌, length, drop, Ok, Err, Result, nat_le}
use Rattle.refusal.specs.declared.Refusal.{Refusal}
use Rattle.refusal.specs.declared.Refusal.TheVariants.{Short}
use Rattle.elements.specs.Numbers.{written}
use Rattle.kind.specs.declared.Kind.{Kind}
use Rattle.kind.specs.declared.Kind.TheVariants.{Send, Echo, Ready, Hash, Symbol}
use Rattle.protocol.specs.Messages.{Bytes, Message, send, echo, ready, hash, symbol, kind, sender}
use Rattle.frame.specs.declared.Frame.{Frame}
use Rattle.frame.specs.declared.Frame.TheVariants.{Send as SendFrame, Echo as EchoFrame, Ready as ReadyFrame, Hash as HashFrame, Symbol as SymbolFrame}
use Rattle.layout.specs.Kinds.{row}

abbrev pub message : Frame → Message
message (SendFrame v x) = send v.now x.now
message (EchoFrame i v) = echo i v.now
message (ReadyFrame i v) = ready i v.now
message (HashFrame i s) = hash i s.now
message (SymbolFrame i x) = symbol i x.now

-- The digests of a message, and the bytes after them.
abbrev pub vector : Message → Bytes
vector (send v x) = v
vector (echo i v) = v
vector (ready i v) = v
vector (hash i s) = []
vector (symbol i x) = []

abbrev pub payload : Message → Bytes
payload (send v x) = x
payload (echo i v) = []
payload (ready i v) = []
payload (hash i s) = s
payload (symbol i x) = x

-- The message of a kind from a sender, with these sections.
abbrev pub made : Kind → ℕ → Bytes → Bytes → Message
made Send i v x = send v x
made Echo i v x = echo i v
made Ready i v x = ready i v
made Hash i v x = hash i x
made Symbol i v x = symbol i x

-- The bytes of a frame: kind, sender, a count of digests in one byte and the digests, a count of bytes in two and the bytes.
abbrev pub framed : ℕ → ℕ → Bytes → Bytes → Bytes
framed k i v x = (k ∷ (i ∷ ((length v / 32) % 256 ∷ []))) ++ (v ++ (written 2 (length x) ++ x))

abbrev pub encode : Message → Bytes
encode m = framed (row (kind m)).number (sender m) (vector m) (payload m)

-- What writing a message to a place answers, and what the place holds then: the frame at its front, or what it held if it has no room for it.
pub record Written (m : Message) (before : Bytes) (r : Result ℕ Refusal) (after : Bytes) : Type 0 where
  pub answer : r ≡ cond (nat_le (length (encode m)) (length before)) (Ok (length (encode m))) (Err Short)
  pub place : after ≡ cond (nat_le (length (encode m)) (length before)) (encode m ++ drop (length (encode m)) before) before
