-- The messages. A message of a board begins with the board's number; vectors, fragments and shares are byte strings.
use Rattle.std.specs.Prelude.{ℕ, List, Some, None, Option}
use Rattle.kind.specs.declared.Kind.{Kind}
use Rattle.kind.specs.declared.Kind.TheVariants.{Send, Echo, Ready, Hash, Symbol}

abbrev pub Bytes : Type 0
Bytes = List ℕ

-- A vector and a board's fragment, which a dealer sends together.
abbrev pub Parcel : Type 0
Parcel = Bytes × Bytes

pub data Message : Type 0 where
  send : Bytes → Bytes → Message
  echo : ℕ → Bytes → Message
  ready : ℕ → Bytes → Message
  hash : ℕ → Bytes → Message
  symbol : ℕ → Bytes → Message

-- Its kind, and who sent it: the dealer is 0, the boards are 1 to n.
abbrev pub kind : Message → Kind
kind (send v x) = Send
kind (echo i v) = Echo
kind (ready i v) = Ready
kind (hash i s) = Hash
kind (symbol i x) = Symbol

abbrev pub sender : Message → ℕ
sender (send v x) = 0
sender (echo i v) = i
sender (ready i v) = i
sender (hash i s) = i
sender (symbol i x) = i

-- What a message of each kind carries.
abbrev pub sent : Message → Option Parcel
sent (send v x) = Some (v, x)
sent (echo i v) = None
sent (ready i v) = None
sent (hash i s) = None
sent (symbol i x) = None

abbrev pub echoed : Message → Option Bytes
echoed (send v x) = None
echoed (echo i v) = Some v
echoed (ready i v) = None
echoed (hash i s) = None
echoed (symbol i x) = None

abbrev pub readied : Message → Option Bytes
readied (send v x) = None
readied (echo i v) = None
readied (ready i v) = Some v
readied (hash i s) = None
readied (symbol i x) = None

abbrev pub hashed : Message → Option Bytes
hashed (send v x) = None
hashed (echo i v) = None
hashed (ready i v) = None
hashed (hash i s) = Some s
hashed (symbol i x) = None

abbrev pub symboled : Message → Option Bytes
symboled (send v x) = None
symboled (echo i v) = None
symboled (ready i v) = None
symboled (hash i s) = None
symboled (symbol i x) = Some x
